pub mod Formats
pub mod Meaning
pub mod Names
pub mod Packed
pub mod Places
pub mod Table
