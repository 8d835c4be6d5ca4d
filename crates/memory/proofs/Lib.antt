-- The laws that the proofs of several functions, and of other crates, share.
pub mod Parts
pub mod Numbers
pub mod Values
pub mod Files
