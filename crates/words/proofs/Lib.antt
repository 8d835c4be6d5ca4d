pub mod Blocks
pub mod Fixed
pub mod ReadWrite
pub mod WriteRead
pub mod Answers
pub mod Refusals
