-- `permute::inserts::put` meets its contract. The old element goes, and the new one comes.
use borrow.Author.Rules.{rules}
use native.Mathlib.Omega.{arith}
use Rattle.vectors.proofs.Sizes.{shares}
use Rattle.permute.proofs.InsertLaws.{old-fits, moved_back, put-moved}
use Rattle.permute.proofs.inserts.put.Goals as goal

pub overflow_sub-result : goal.overflow_sub-result
overflow_sub-result c =
    let top = c in
    let a = top.args in
    let share = shares a.w in
    rw (moved_back share a.d a.i a.x (search rules) top.requires c.count.ensures
    c.in_word.ensures.is)
    (old-fits share a.d a.i a.x (search rules) top.requires)

pub overflow_add-result : goal.overflow_add-result
overflow_add-result c =
    let top = c in
    let a = top.args in
    let h = (put-moved (shares a.w) a.d a.i a.x (search rules) top.requires c.count.ensures
    c.in_word.ensures.is c.low.ensures).below in omega arith

pub returns : goal.returns
returns c =
    let top = c in
    let a = top.args in
    put-moved (shares a.w) a.d a.i a.x (search rules) top.requires c.count.ensures
    c.in_word.ensures.is c.low.ensures
