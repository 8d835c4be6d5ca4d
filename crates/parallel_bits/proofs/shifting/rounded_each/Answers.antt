-- `parallel_bits::shifting::rounded_each` meets its contract. The floor and the last bit out, in views (Floors).
use native.Mathlib.Omega.{arith}
use Prim.Native.Nat.{◌%◌}
use Rattle.isa.specs.Widths.{bits}
use Rattle.vectors.specs.Register.{element}
use Rattle.parallel_bits.proofs.Amounts.{amount-below}
use Rattle.parallel_bits.proofs.Floors.{rounded-lanes, rounded-all}
use Rattle.parallel_bits.proofs.shifting.rounded_each.Goals as goal

pub overflow_add-viewed : goal.overflow_add-viewed
overflow_add-viewed c =
    let moved = c in
    let a = moved.args in
    let n = bits a.w in
    let sum = rounded-lanes a.w a.g a.s (λ i. element n a.t i % n)
    (λ i. amount-below a.w (element n a.t i)) moved.shift_right.ensures c.viewed.ensures
    c.last_out.ensures in
    omega (arith, sum.below)

pub returns : goal.returns
returns c =
    let out = c in
    let moved = out in
    let a = moved.args in
    let n = bits a.w in
    rounded-all a.w a.g a.s (λ i. element n a.t i % n) (λ i. amount-below a.w (element n a.t i))
    moved.shift_right.ensures out.viewed.ensures out.last_out.ensures c.viewed-2.ensures
