-- The laws that the proofs of several functions share.
pub mod Fields
pub mod Floors
pub mod Below
