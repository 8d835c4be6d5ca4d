-- `plan::vector::imm5` hands on what the registers hold.
use Rattle.plan.proofs.vector.imm5.Goals as goal

pub returns : goal.returns
returns c = rw (c.imm5.ensures, c.read_register.ensures.exact)
