-- `parallel_bits::steps::by_bit` meets its contract. The bit, times all ones, is the mask that picks.
use borrow.Author.Rules.{rules}
use native.Mathlib.Omega.{arith}
use mathlib.Core.Path.{ap}
use Prim.Native.Nat.{◌-◌, ◌^◌}
use lib.Dec.{eqb}
use Rattle.isa.specs.Widths.{bits}
use Rattle.element.proofs.Widths.{size}
use Rattle.bits.specs.Places.{bit_at}
use Rattle.vectors.specs.Register.{element}
use Rattle.vectors.proofs.Sizes.{shares}
use Rattle.parallel.proofs.Tested.{picked-lane}
use Rattle.parallel.proofs.Words.{own, fits, same-lanes, and-lanes, or-lanes}
use Rattle.parallel_bits.proofs.Barrel.{mask_lanes}
use Rattle.parallel_bits.proofs.steps.by_bit.Goals as goal

pub overflow_mul-m : goal.overflow_mul-m
overflow_mul-m c =
    let start = c in
    let a = start.args in
    let mask = mask_lanes a.w a.t a.j (search rules) start.requires c.units.ensures
    c.ones.ensures in
    omega (arith, mask.below)

pub returns : goal.returns
returns c =
    let made = c in
    let start = made in
    let a = start.args in
    let n = bits a.w in
    let share = shares a.w in
    let set = own share a.set (search rules) in
    let clear = own share a.clear (search rules) in
    let mask = mask_lanes a.w a.t a.j (search rules) start.requires made.units.ensures
    made.ones.ensures in
    let other = same-lanes share c.inverse.ensures (λ i l. ap (λ x. 2 ^ n - 1 - x) (mask.at i l)) in
    same-lanes share (or-lanes share (and-lanes share set mask) (and-lanes share clear other))
    (λ i l. picked-lane n (size a.w) (eqb (bit_at (element n a.t i) a.j) 0)
    (fits share set i l) (fits share clear i l))
