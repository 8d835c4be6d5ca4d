-- The laws that the proofs of several functions, and of other crates, share.
pub mod BitLaws
