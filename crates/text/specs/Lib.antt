pub mod Text
pub mod Numerals
