-- `entry::step_reason`: each arm knows its side of the test.
use borrow.Author.Tests.{eq-eqb, ne_eqb}
use Rattle.entry.proofs.step_reason.Goals as goal

pub returns-then-n-eq20 : goal.returns-then-n-eq20
returns-then-n-eq20 c = rw (eq-eqb _ _ c.if-n-eq20.true)

pub returns-else-n-eq20 : goal.returns-else-n-eq20
returns-else-n-eq20 c = rw (ne_eqb _ _ c.if-n-eq20.false)
