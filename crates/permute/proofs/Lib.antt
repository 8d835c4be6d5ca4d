-- The laws that the proofs of several functions, and of other crates, share.
pub mod ControlLaws
pub mod Extensions
pub mod FiledLaws
pub mod InsertLaws
pub mod PackLaws
pub mod ShuffleLaws
pub mod SideLaws
pub mod SlideLaws
