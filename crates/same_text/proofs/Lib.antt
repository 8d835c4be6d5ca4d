pub mod Scan
pub mod Tokens
pub mod Heads
pub mod Rebuild
pub mod SameText
