-- The laws that the proofs of several functions, and of other crates, share.
pub mod Words
pub mod Named
pub mod Whole
pub mod TopBit
pub mod Tested
pub mod Masked
pub mod Halves
pub mod Held
pub mod Limits
