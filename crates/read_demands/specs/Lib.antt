pub mod Answers
pub mod Calls
pub mod Kept
pub mod OneAnswer
