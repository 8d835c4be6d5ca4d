-- `plan::vector::vec` hands on what the registers hold.
use Rattle.memory.specs.Value.{register}
use Rattle.plan.proofs.VecLaws.{same-together}
use Rattle.plan.specs.declared.Plan.TheVariants.{Vector}
use mathlib.Core.Path.{ap, ◌∙◌}
use Rattle.plan.proofs.vector.vec.Goals as goal

pub returns : goal.returns
returns c = ap (Vector c.args.wd) (c.logic.ensures ∙ ap register (same-together c.args.op c.read_register-d.ensures.exact c.read_register-s.ensures.exact c.read_register-t.ensures.exact))
