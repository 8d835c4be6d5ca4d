pub mod Cut
pub mod Entry
pub mod Listed
