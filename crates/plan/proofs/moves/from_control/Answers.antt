-- `plan::moves::from_control`: by the control register.
use borrow.Author.Tests.{eq-eqb, ne_eqb}
use Rattle.plan.proofs.moves.from_control.Goals as goal

pub returns-then-cs-eq1 : goal.returns-then-cs-eq1
returns-then-cs-eq1 c = rw (eq-eqb _ _ c.if-cs-eq1.true)

pub returns-else-cs-eq1 : goal.returns-else-cs-eq1
returns-else-cs-eq1 c = rw (ne_eqb _ _ c.if-cs-eq1.false)
