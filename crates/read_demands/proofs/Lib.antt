pub mod Answers
pub mod Comes
pub mod Kept
pub mod OneAnswer
