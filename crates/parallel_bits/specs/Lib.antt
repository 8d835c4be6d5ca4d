-- The definition that a contract of `parallel_bits` cites.
pub mod Shift
