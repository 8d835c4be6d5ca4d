-- `budget::is_ahead`: by the field's top bit.
use Rattle.std.proofs.Common.{rules}
use Rattle.budget.proofs.BudgetLaws.{ahead-is}
use Rattle.budget.proofs.is_ahead.Goals as goal

pub returns : goal.returns
returns c = ahead-is c.args.offset (search rules)
