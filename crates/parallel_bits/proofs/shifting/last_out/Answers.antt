-- `parallel_bits::shifting::last_out` meets its contract. Bit k of twice the element.
use native.Mathlib.Omega.{arith}
use mathlib.Core.Path.{ap, ◌∙◌}
use Prim.Native.Nat.{◌/◌, ◌%◌, ◌^◌}
use lib.Bits.{bit_and, and_mask}
use Rattle.isa.specs.Widths.{bits}
use Rattle.bits.specs.Shifts.{sll}
use Rattle.vectors.specs.Register.{element}
use Rattle.vectors.proofs.Sizes.{shares}
use Rattle.parallel.proofs.Words.{same-lanes, and-lanes}
use Rattle.parallel_bits.proofs.Amounts.{wide, amount-below, last-lane}
use Rattle.parallel_bits.proofs.shifting.last_out.Goals as goal

pub returns : goal.returns
returns c =
    let moved = c in
    let a = moved.args in
    let n = bits a.w in
    same-lanes (shares a.w) (and-lanes (shares a.w) moved.right.ensures c.units.ensures)
    (λ i l. ap (λ z. bit_and (z / 2 ^ (element n a.t i % n)) 1) (moved.sll.ensures.at i l)
    ∙ and_mask (sll n (element n a.s i) 1 / 2 ^ (element n a.t i % n)) 1
    ∙ last-lane n (element n a.s i) (element n a.t i % n) (omega (arith, wide a.w))
    (amount-below a.w (element n a.t i)))
