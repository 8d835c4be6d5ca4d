pub mod Block
pub mod Entry
pub mod Kept
pub mod Layout
pub mod OneAnswer
pub mod Why
