pub mod Ahead
pub mod Index
pub mod Reading
