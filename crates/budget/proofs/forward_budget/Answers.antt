-- `budget::forward_budget`: each way out puts what the calls answered into the definition.
use Rattle.budget.specs.Budget.{budget_of}
use Rattle.state.proofs.FetchLaws.{fetched-inside}
use Rattle.state.proofs.Said.{fetched-is}
use Rattle.state.proofs.SetupLaws.{program-small}
use lib.ListN.{length}
use mathlib.Core.Path.{sym, ◌∙◌}
use Rattle.budget.proofs.forward_budget.Goals as goal

pub returns-then-program_bad : goal.returns-then-program_bad
unfolding budget_of
returns-then-program_bad c = rw (sym c.program_bad.ensures ∙ c.if-program_bad.true)

pub returns-in_default : goal.returns-in_default
unfolding budget_of
returns-in_default c = rw (sym c.program_bad.ensures ∙ c.if-program_bad.false, ← fetched-is c.word_at.ensures, c.in_default.is)

pub overflow_sub-counter : goal.overflow_sub-counter
overflow_sub-counter c = (fetched-inside _ _ _ (sym (fetched-is c.word_at.ensures) ∙ c.in-Some.is)).0

pub from_word-requires : goal.from_word-requires
from_word-requires c =
    let a = c.args in
    let inside = fetched-inside _ _ _ (sym (fetched-is c.word_at.ensures) ∙ c.in-Some.is) in
    (inside.1, program-small a.base (length a.program.now) (sym c.program_bad.ensures ∙ c.if-program_bad.false))

pub returns : goal.returns
unfolding budget_of
returns c =
    rw (sym c.program_bad.ensures ∙ c.if-program_bad.false, ← fetched-is c.word_at.ensures, c.in-Some.is) c.from_word.ensures
