-- The laws that the proofs of several functions, and of `permute`, share.
pub mod Places
pub mod Quarters
