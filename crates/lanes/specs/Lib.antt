-- The one operation on an element, by its name.
pub mod Lane
