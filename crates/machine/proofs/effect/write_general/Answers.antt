-- `machine::effect::write_general`: dropped, or the eight bytes are put.
use Rattle.machine.specs.Effect.{with_general}
use Rattle.std.proofs.Common.{eq-eqb, ne_eqb}
use Rattle.machine.proofs.effect.write_general.Goals as goal

pub returns-then-r-ne0 : goal.returns-then-r-ne0
unfolding with_general
returns-then-r-ne0 c = rw (ne_eqb _ _ c.if-r-ne0.true) c.put_eight.ensures

pub returns-else-r-ne0 : goal.returns-else-r-ne0
unfolding with_general
returns-else-r-ne0 c = rw (eq-eqb _ _ c.if-r-ne0.false)
