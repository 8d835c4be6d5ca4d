-- The laws that the proofs of several functions share.
pub mod Apart
pub mod Pairs
pub mod Runs
