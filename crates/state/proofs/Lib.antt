pub mod FetchLaws
pub mod Named
pub mod Said
pub mod SetupLaws
pub mod TestLaws
pub mod WindowLaws
