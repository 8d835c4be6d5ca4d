pub mod Back
pub mod Codes
pub mod Rows
