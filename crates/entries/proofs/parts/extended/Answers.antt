-- `entries::parts::extended` meets its contract.
use Rattle.std.proofs.Common.{refl, arith, rules}
use Rattle.entries.proofs.Extended.{carried}
use Rattle.entries.proofs.parts.extended.Goals as goal

pub overflow_add-result : goal.overflow_add-result
overflow_add-result c = omega (arith, c.imm_of-x.ensures.1)

pub returns : goal.returns
returns c =
    rw (← c.imm_of-x.ensures.0) (carried c.imm_of-x.result _ c.imm_of-x.ensures.1 (search rules) (omega arith))
