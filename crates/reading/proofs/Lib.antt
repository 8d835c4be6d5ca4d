pub mod Low
pub mod Ranges
pub mod Said
pub mod Told
