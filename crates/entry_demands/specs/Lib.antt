pub mod Answers
pub mod Budget
pub mod Calls
pub mod GoesOn
pub mod Order
pub mod Range
pub mod Why
