-- `parallel_bits::places::binsl` meets its contract. The n - 1 - k low bits of d stay.
use mathlib.Core.Path.{ap, ◌∙◌}
use Prim.Native.Nat.{◌+◌, ◌-◌, ◌%◌, ◌^◌}
use lib.Bits.{bit_and}
use Rattle.isa.specs.Widths.{bits}
use Rattle.bits.specs.Places.{binsl}
use Rattle.vectors.specs.Register.{element}
use Rattle.vectors.proofs.ElementLaws.{element-below}
use Rattle.vectors.proofs.Sizes.{shares}
use Rattle.parallel.proofs.Words.{same-lanes}
use Rattle.parallel_bits.proofs.Amounts.{amount-inverse, over-lane}
use Rattle.parallel_bits.proofs.Masks.{below-fits, below-lanes}
use Rattle.parallel_bits.proofs.places.binsl.Goals as goal

pub overflow_sub-below : goal.overflow_sub-below
overflow_sub-below c =
    let turned = c in
    below-fits turned.args.w turned.inverse.result c.powers-p.ensures c.units.ensures

pub returns : goal.returns
unfolding binsl
returns c =
    let mask = c in
    let turned = mask in
    let a = turned.args in
    let n = bits a.w in
    let below = below-lanes a.w turned.inverse.result mask.powers-p.ensures mask.units.ensures in
    same-lanes (shares a.w) c.over.ensures
    (λ i l. ap (λ m. element n a.s i - bit_and (element n a.s i) m + bit_and (element n a.d i) m)
    (below.at i l ∙ ap (λ k. 2 ^ k - 1) (ap (λ x. x % n) (turned.inverse.ensures.at i l)
    ∙ amount-inverse a.w (element n a.t i) (element-below n a.t i)))
    ∙ over-lane (element n a.d i) (element n a.s i) (n - 1 - element n a.t i % n))
