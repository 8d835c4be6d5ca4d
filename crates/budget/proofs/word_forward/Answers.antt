-- `budget::word_forward`: by the bits that tell a branch.
use Rattle.budget.proofs.BranchLaws.{branch-forward, other-forward}
use borrow.Author.Rules.{rules}
use mathlib.Core.Path.{◌∙◌}
use Rattle.budget.proofs.word_forward.Goals as goal

pub returns-then-top : goal.returns-then-top
returns-then-top c =
    c.is_ahead.ensures ∙ branch-forward c.args.w (search rules) c.if-top.true

pub returns-else-top : goal.returns-else-top
returns-else-top c = other-forward c.args.w (search rules) c.if-top.false
