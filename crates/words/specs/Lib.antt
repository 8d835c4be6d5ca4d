pub mod Formed
pub mod Theorems
