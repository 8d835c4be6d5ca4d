pub mod BranchLaws
pub mod BudgetLaws
