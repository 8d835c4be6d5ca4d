-- `plan::address::target_of`: sums and products modulo 2^64 are those of the numbers.
use Rattle.plan.proofs.NumberLaws.{scaled-sum-on}
use Rattle.plan.specs.Numbers.{target}
use mathlib.Core.Path.{sym}
use Rattle.plan.proofs.address.target_of.Goals as goal

pub returns : goal.returns
unfolding target
returns c =
    rw (c.addv-2.ensures, c.addv.ensures, c.mulv-step.ensures, c.extend.ensures)
    (sym (scaled-sum-on c.args.pc 4 4 _))
