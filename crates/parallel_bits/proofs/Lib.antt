-- The laws that the proofs of several functions share.
pub mod Amounts
pub mod Barrel
pub mod Floors
pub mod Masks
