-- The laws of the operations by number.
pub mod Below
