-- `linear::wrapping::subv` meets its contract. The one law over the width, at each of the four.
use Rattle.std.proofs.Common.{sym, mod-eq_of_lt, rules}
use Rattle.linear.proofs.Wrapped.{subtracted}
use Rattle.linear.proofs.wrapping.subv.Goals as goal

pub returns-in-B : goal.returns-in-B
returns-in-B c = rw c.in-B.is (subtracted 8 _ _ c.byte.ensures c.byte-in-B.ensures)

pub returns-in-H : goal.returns-in-H
returns-in-H c = rw c.in-H.is (subtracted 16 _ _ c.halfword.ensures c.halfword-in-H.ensures)

pub returns-in-W : goal.returns-in-W
returns-in-W c = rw c.in-W.is (subtracted 32 _ _ c.word.ensures c.word-in-W.ensures)

pub returns-in-D : goal.returns-in-D
returns-in-D c = rw c.in-D.is
    (subtracted 64 _ _ (sym (mod-eq_of_lt (search rules))) (sym (mod-eq_of_lt (search rules))))
