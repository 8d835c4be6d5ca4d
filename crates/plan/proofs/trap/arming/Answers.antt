-- `plan::trap::arming` puts the tests together.
use Rattle.plan.proofs.trap.arming.Goals as goal

pub returns-then-bit : goal.returns-then-bit
returns-then-bit c = rw (← c.bit.ensures, c.if-bit.true)

pub returns : goal.returns
returns c =
    let test = c in
    rw (
      ← test.bit.ensures,
      test.if-bit.false,
      c.shared.ensures.0,
      c.shared-2.ensures.0,
      c.shared-3.ensures.0,
      c.shared-4.ensures.0,
      c.shared-5.ensures.0,
    )
