pub mod Run
pub mod Turn
