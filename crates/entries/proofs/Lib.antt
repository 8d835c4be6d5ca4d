pub mod CutLaws
pub mod Extended
pub mod Given
pub mod Kept
pub mod ListedLaws
pub mod Low
