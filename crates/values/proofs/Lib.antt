-- The laws that the proofs of several functions share.
pub mod Arms
pub mod OtherArms
pub mod Unassigned
