-- `plan::planned::plan_of`: the early stop is tested, and the rest is `execute`'s.
use Rattle.plan.specs.Plan.{plan_of}
use Rattle.plan.proofs.planned.plan_of.Goals as goal

pub returns-in-Ok : goal.returns-in-Ok
unfolding plan_of
returns-in-Ok c =
    rw (
      ← c.kind_of.ensures,
      ← c.early_stop.ensures,
      c.in-Ok.is,
    )
    c.execute.ensures

pub returns-in-Err : goal.returns-in-Err
unfolding plan_of
returns-in-Err c =
    rw (
      ← c.kind_of.ensures,
      ← c.early_stop.ensures,
      c.in-Err.is,
    )
