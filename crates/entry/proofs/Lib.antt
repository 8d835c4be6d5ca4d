pub mod BlockLaws
pub mod EntryLaws
pub mod KeptLaws
pub mod LayoutLaws
pub mod OneAnswer
