-- The laws that the proofs of several functions, and of other crates, share.
pub mod Below
pub mod Forms
pub mod Room
pub mod Order
pub mod Stands
pub mod Multiplied
pub mod SixParts
