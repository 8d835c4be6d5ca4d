-- `plan::moves::to_control`, test by test.
use borrow.Author.Tests.{eq-eqb, ne_eqb}
use Rattle.plan.proofs.moves.to_control.Goals as goal

pub returns-then-has_trap : goal.returns-then-has_trap
returns-then-has_trap c =
    rw (
      eq-eqb _ _ c.if-cd-eq1.true,
      ← c.mask-v.ensures,
      ← c.has_trap.ensures,
      c.if-has_trap.true,
      c.arming.ensures,
    )

pub returns-then-cd-eq1 : goal.returns-then-cd-eq1
returns-then-cd-eq1 c = rw (eq-eqb _ _ c.if-cd-eq1.true, ← c.mask-v.ensures, ← c.has_trap.ensures, c.if-has_trap.false)

pub returns : goal.returns
returns c = rw (ne_eqb _ _ c.if-cd-eq1.false)
