-- `parallel_bits::places::up_to` meets its contract. Twice a power less 1, within the element (Masks).
use native.Mathlib.Omega.{arith}
use Rattle.parallel_bits.proofs.Masks.{below-fits, up-to-lanes}
use Rattle.parallel_bits.proofs.places.up_to.Goals as goal

pub overflow_sub-below : goal.overflow_sub-below
overflow_sub-below c =
    let a = c.args in
    below-fits a.w a.t c.powers-p.ensures c.units.ensures

pub returns : goal.returns
returns c =
    let a = c.args in
    up-to-lanes a.w a.t c.powers-p.ensures c.units.ensures

pub overflow_add-result : goal.overflow_add-result
overflow_add-result c = omega (arith, (up-to-lanes c.args.w c.args.t c.powers-p.ensures c.units.ensures).below)
