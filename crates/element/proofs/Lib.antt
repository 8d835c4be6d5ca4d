-- The laws that the proofs of the operations share.
pub mod Diff
pub mod Widths
pub mod Views
pub mod Readings
