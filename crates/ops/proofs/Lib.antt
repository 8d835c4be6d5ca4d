pub mod Find
pub mod Names
pub mod Packed
