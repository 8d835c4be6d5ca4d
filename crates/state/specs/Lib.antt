pub mod Csr
pub mod Fetch
pub mod Machine
pub mod Numbers
pub mod Setup
pub mod Windows
