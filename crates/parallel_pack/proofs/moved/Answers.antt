-- `parallel_pack::moved` meets its contract. Two fields of every element, the second at its place.
use borrow.Author.Rules.{rules}
use native.Mathlib.Omega.{arith}
use native.Mathlib.Nat.{mod-eq_of_lt}
use Rattle.parallel_pack.proofs.Places.{up-lanes, moved-lanes}
use Rattle.parallel_pack.proofs.moved.Goals as goal

pub overflow_add-result : goal.overflow_add-result
overflow_add-result c =
    let p = c.requires in
    let a = c.args in
    let up = up-lanes a.v a.x a.from a.to (search rules) c.lowest-m.ensures p.0 p.2 in
    let all = moved-lanes a.v a.x a.from a.to (search rules) c.lowest-m.ensures p.0 p.2 p.1 in
    rw (mod-eq_of_lt up.below) (omega (arith, all.below))

pub returns : goal.returns
returns c =
    let p = c.requires in
    let a = c.args in
    let up = up-lanes a.v a.x a.from a.to (search rules) c.lowest-m.ensures p.0 p.2 in
    rw (mod-eq_of_lt up.below)
    (moved-lanes a.v a.x a.from a.to (search rules) c.lowest-m.ensures p.0 p.2 p.1)
