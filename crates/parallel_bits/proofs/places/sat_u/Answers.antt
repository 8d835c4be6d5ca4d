-- `parallel_bits::places::sat_u` meets its contract. The smaller of each element and the largest.
use native.Mathlib.Omega.{arith}
use mathlib.Core.Path.{sym, ap, ◌∙◌}
use Prim.Native.Nat.{◌%◌, min}
use Rattle.isa.specs.Widths.{bits}
use Rattle.element.proofs.Widths.{size}
use Rattle.bits.proofs.Fields.{sat_u-form}
use Rattle.vectors.specs.Register.{element}
use Rattle.vectors.proofs.ElementLaws.{element-below}
use Rattle.vectors.proofs.Sizes.{shares}
use Rattle.parallel.proofs.Words.{same-lanes}
use Rattle.parallel_bits.proofs.Amounts.{amount-below}
use Rattle.parallel_bits.proofs.places.sat_u.Goals as goal

pub returns : goal.returns
returns c =
    let a = c.args in
    let n = bits a.w in
    same-lanes (shares a.w) c.least.ensures
    (λ i l. ap (min (element n a.s i)) (c.up_to.ensures.at i l)
    ∙ sym (sat_u-form n (size a.w) (element n a.s i) (element n a.t i % n) (element-below n a.s i)
    (amount-below a.w (element n a.t i)) ∙ omega arith))
