pub mod Lines
pub mod SameLine
