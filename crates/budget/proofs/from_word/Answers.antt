-- `budget::from_word`: by what the words say.
use mathlib.Core.Path.{sym, ◌∙◌}
use Rattle.budget.proofs.from_word.Goals as goal

pub returns-then-all_forward : goal.returns-then-all_forward
returns-then-all_forward c = rw (sym c.all_forward.ensures ∙ c.if-all_forward.true)

pub returns-else-all_forward : goal.returns-else-all_forward
returns-else-all_forward c = rw (sym c.all_forward.ensures ∙ c.if-all_forward.false)
