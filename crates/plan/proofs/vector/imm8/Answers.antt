-- `plan::vector::imm8` hands on what the registers hold.
use Rattle.memory.specs.Value.{register}
use Rattle.plan.proofs.VecLaws.{same-together}
use Rattle.plan.specs.declared.Plan.TheVariants.{Vector}
use mathlib.Core.Path.{refl, ap, ◌∙◌}
use Rattle.plan.proofs.vector.imm8.Goals as goal

pub returns : goal.returns
returns c = ap (Vector c.args.wd) (c.imm8.ensures ∙ ap register (same-together c.args.op c.read_register-d.ensures.exact c.read_register-s.ensures.exact refl))
