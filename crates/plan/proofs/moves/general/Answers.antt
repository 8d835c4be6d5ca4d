-- `plan::moves::general`: the eight bytes of the register, and none past the last.
use mathlib.Core.Path.{sym, ap}
use native.Mathlib.Omega.{arith}
use Prim.Native.Nat.{◌*◌}
use Rattle.memory.specs.Bytes.{number}
use Rattle.memory.proofs.Parts.{part-past}
use Rattle.plan.specs.Plan.{general_at}
use Rattle.plan.proofs.moves.general.Goals as goal

pub returns-then-r-gt31 : goal.returns-then-r-gt31
unfolding general_at number
returns-then-r-gt31 c = sym (ap number (part-past _ (8 * c.args.r.0) 8 (omega (arith, c.if-r-gt31.true))))

pub returns : goal.returns
unfolding general_at
returns c = c.eight.ensures
