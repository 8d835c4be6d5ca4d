pub mod Order
pub mod Moved
