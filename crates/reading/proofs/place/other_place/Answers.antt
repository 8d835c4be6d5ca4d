-- `reading::place::other_place` meets its contract.
use Rattle.reading.proofs.Low.{low6}
use borrow.Author.Tests.{eq-eqb, ne_eqb}
use native.Mathlib.Omega.{arith}
use Rattle.reading.proofs.place.other_place.Goals as goal

pub returns-then-major-eq17 : goal.returns-then-major-eq17
returns-then-major-eq17 c = (rw (eq-eqb _ _ c.if-major-eq17.true), omega arith)

pub returns-then-major-eq0 : goal.returns-then-major-eq0
returns-then-major-eq0 c = (rw (ne_eqb _ _ c.if-major-eq17.false, eq-eqb _ _ c.if-major-eq0.true, low6 _), omega arith)

pub returns : goal.returns
returns c = (rw (ne_eqb _ _ c.if-major-eq17.false, ne_eqb _ _ c.if-major-eq0.false), omega arith)
