pub mod Puts
pub mod Numerals
pub mod Same
