-- `reading::place::vec_place` meets its contract.
use borrow.Author.Tests.{eq-eqb, ne_eqb}
use native.Mathlib.Omega.{arith}
use Rattle.reading.proofs.place.vec_place.Goals as goal

pub returns-then-w-eq24 : goal.returns-then-w-eq24
returns-then-w-eq24 c = (rw (eq-eqb _ _ c.if-w-eq24.true), omega arith)

pub returns : goal.returns
returns c = (rw (ne_eqb _ _ c.if-w-eq24.false), omega arith)
