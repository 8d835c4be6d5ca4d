pub mod ActLaws
pub mod FilledLaws
pub mod KeptLaws
pub mod PlaceLaws
pub mod StepLaws
pub mod ThereLaws
