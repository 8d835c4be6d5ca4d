pub mod AheadLaws
pub mod NumberLaws
pub mod PlanLaws
pub mod VecLaws
pub mod ZeroLaws
