-- The laws of the operations on an element.
pub mod Below
