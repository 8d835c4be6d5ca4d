pub mod Ahead
pub mod Numbers
pub mod Plan
pub mod There
pub mod Zero
