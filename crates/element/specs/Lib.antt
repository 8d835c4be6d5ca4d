-- The definitions that the contracts of `element` and of the operations cite.
pub mod Value
pub mod Views
pub mod Elements
