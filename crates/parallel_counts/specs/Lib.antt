-- What the steps to a count keep.
pub mod Runs
