-- `linear::wrapping::addv` meets its contract. The one law over the width, at each of the four.
use Rattle.std.proofs.Common.{sym, mod-eq_of_lt, rules}
use Rattle.linear.proofs.Wrapped.{added}
use Rattle.linear.proofs.wrapping.addv.Goals as goal

pub returns-in-B : goal.returns-in-B
returns-in-B c = rw c.in-B.is (added 8 _ _ c.byte.ensures c.byte-in-B.ensures)

pub returns-in-H : goal.returns-in-H
returns-in-H c = rw c.in-H.is (added 16 _ _ c.halfword.ensures c.halfword-in-H.ensures)

pub returns-in-W : goal.returns-in-W
returns-in-W c = rw c.in-W.is (added 32 _ _ c.word.ensures c.word-in-W.ensures)

pub returns-in-D : goal.returns-in-D
returns-in-D c = rw c.in-D.is
    (added 64 _ _ (sym (mod-eq_of_lt (search rules))) (sym (mod-eq_of_lt (search rules))))
