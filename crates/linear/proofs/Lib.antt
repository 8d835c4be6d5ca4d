-- The laws that the proofs of several functions share.
pub mod Wrapped
pub mod Forms
pub mod Below
