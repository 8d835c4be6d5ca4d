-- Sums, differences, averages and compares on one element.
pub mod Sums
pub mod Order
pub mod Operations
