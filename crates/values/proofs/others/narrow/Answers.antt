-- `values::others::narrow` meets its contract: one answer for each.
use borrow.Author.Tests.{eq-eqb, ne_eqb}
use lib.Dec.{lit≤}
use Rattle.values.proofs.others.narrow.Goals as goal

pub returns-then-e-eq1 : goal.returns-then-e-eq1
returns-then-e-eq1 c = (rw (eq-eqb _ _ c.if-e-eq1.true), lit≤ tt)

pub returns-else-e-eq1 : goal.returns-else-e-eq1
returns-else-e-eq1 c = (rw (ne_eqb _ _ c.if-e-eq1.false), lit≤ tt)
