-- `parallel_pack::quarter_at` meets its contract. A field of every element, at its place.
use borrow.Author.Rules.{rules}
use native.Mathlib.Nat.{mod-eq_of_lt}
use Rattle.parallel_pack.proofs.Quarters.{quarter-lanes}
use Rattle.parallel_pack.proofs.quarter_at.Goals as goal

pub returns : goal.returns
returns c =
    let top = c in
    let a = top.args in
    let all = quarter-lanes a.v a.x a.c a.i (search rules)
    c.lowest.ensures top.requires.0 top.requires.1 in
    rw (c.quarter-q.ensures, mod-eq_of_lt all.below) all
