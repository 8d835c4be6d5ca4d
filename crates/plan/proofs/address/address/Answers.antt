-- `plan::address::address`: sums and products modulo 2^64 are those of the numbers.
use Rattle.element.specs.Value.{signed}
use Rattle.plan.proofs.NumberLaws.{scaled-sum}
use Rattle.plan.specs.Numbers.{address}
use Rattle.plan.proofs.address.address.Goals as goal

pub returns : goal.returns
unfolding address
returns c =
    let sum = scaled-sum c.args.x c.bytes_of.result (signed 10 c.args.offset) in
    cc (sum, c.addv.ensures, c.mulv-step.ensures, c.extend.ensures, c.bytes_of.ensures)
