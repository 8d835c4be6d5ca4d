-- `reading::place::elm_place` meets its contract.
use borrow.Author.Tests.{eq-eqb, ne_eqb}
use native.Mathlib.Omega.{arith}
use Rattle.reading.proofs.place.elm_place.Goals as goal

pub returns-then-w-eq62 : goal.returns-then-w-eq62
returns-then-w-eq62 c = (rw (eq-eqb _ _ c.if-w-eq62.true), omega arith)

pub returns : goal.returns
returns c = (rw (ne_eqb _ _ c.if-w-eq62.false), omega arith)
