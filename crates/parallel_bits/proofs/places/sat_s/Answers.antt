-- `parallel_bits::places::sat_s` meets its contract. Between the ends of the range, in views (Masks).
use native.Mathlib.Omega.{arith}
use mathlib.Core.Path.{sym, ap, ap₂, ◌∙◌}
use Prim.Native.Nat.{◌%◌, min, max}
use Rattle.isa.specs.Widths.{bits}
use Rattle.element.specs.Views.{flip}
use Rattle.element.proofs.Widths.{size}
use Rattle.bits.proofs.Fields.{sat_s-form}
use Rattle.vectors.specs.Register.{element}
use Rattle.vectors.proofs.ElementLaws.{element-below}
use Rattle.vectors.proofs.Sizes.{shares}
use Rattle.parallel.proofs.Words.{same-lanes}
use Rattle.parallel_bits.proofs.Amounts.{amount-below}
use Rattle.parallel_bits.proofs.Masks.{below-fits, lowest-fits, lowest-lanes, highest-lanes}
use Rattle.parallel_bits.proofs.places.sat_s.Goals as goal

pub overflow_sub-low : goal.overflow_sub-low
overflow_sub-low c =
    let a = c.args in
    lowest-fits a.w a.t c.powers-p.ensures c.tops-h.ensures

pub overflow_sub-below : goal.overflow_sub-below
overflow_sub-below c =
    let a = c.args in
    below-fits a.w a.t c.powers-p.ensures c.units.ensures

pub overflow_add-high : goal.overflow_add-high
overflow_add-high c =
    let powered = c in
    let a = powered.args in
    let h = powered.tops-h.ensures in
    let high = highest-lanes a.w a.t powered.powers-p.ensures h c.units.ensures in
    omega (arith, high.below)

pub returns : goal.returns
returns c =
    let held = c in
    let made = held in
    let powered = made in
    let a = powered.args in
    let n = bits a.w in
    let h = powered.tops-h.ensures in
    let low = lowest-lanes a.w a.t powered.powers-p.ensures h in
    let high = highest-lanes a.w a.t powered.powers-p.ensures h made.units.ensures in
    same-lanes (shares a.w) c.flipped-2.ensures
    (λ i l. ap (flip n) (held.most.ensures.at i l ∙ ap₂ max (low.at i l)
    (held.least.ensures.at i l ∙ ap₂ min (held.flipped.ensures.at i l) (high.at i l)))
    ∙ sym (sat_s-form n (size a.w) (element n a.s i) (element n a.t i % n) (element-below n a.s i)
    (amount-below a.w (element n a.t i))))
