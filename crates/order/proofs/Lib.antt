pub mod ByteLaws
pub mod Every
pub mod OrderLaws
pub mod MovedLaws
pub mod TurnLaws
