-- `ops::has` meets its contract: the bit at the place of the format's code.
use native.Mathlib.Omega.{arith}
use Rattle.ops.proofs.has.Goals as goal

pub returns : goal.returns
returns c = rw c.width_code.ensures.0 (c.format_bits.ensures c.args.df)

pub overflow_shr-result : goal.overflow_shr-result
overflow_shr-result c = omega (arith, c.width_code.ensures.1)
