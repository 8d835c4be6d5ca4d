pub mod Ahead
pub mod Effect
pub mod Numbers
pub mod Run
pub mod Step
pub mod Why
