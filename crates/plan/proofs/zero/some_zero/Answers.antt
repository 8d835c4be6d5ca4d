-- `plan::zero::some_zero`: the elements of a register are those of its words.
use Rattle.memory.proofs.Values.{Words}
use Rattle.plan.proofs.ZeroLaws.{zero-words}
use Rattle.vectors.proofs.Sizes.{shares}
use borrow.Author.Rules.{rules}
use mathlib.Core.Bool.{◌||◌}
use mathlib.Core.Path.{ap₂, ◌∙◌}
use Rattle.plan.proofs.zero.some_zero.Goals as goal

pub returns : goal.returns
returns c =
    let a = c.args in
    let words : Words a.v = record { low = search rules; high = search rules } in
    ap₂ (λ x y. x || y) c.zero_in.ensures c.zero_in-2.ensures ∙ zero-words (shares a.w) words
