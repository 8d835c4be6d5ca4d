pub mod AheadLaws
pub mod Said
pub mod RunLaws
pub mod StepLaws
pub mod WhyLaws
