-- `parallel::clipped::subsuu_s` meets its contract. In two steps, of which one does nothing.
use borrow.Author.Rules.{rules}
use native.Mathlib.Omega.{arith}
use Rattle.element.proofs.Widths.{size}
use Rattle.isa.specs.Widths.{bits}
use Rattle.vectors.proofs.Sizes.{shares}
use Rattle.parallel.proofs.Words.{own, fits, same-lanes, minus-lanes, minus-fits}
use mathlib.Core.Path.{refl, ap, ap₂, ◌∙◌}
use Prim.Native.Nat.{min}
use Rattle.element.specs.declared.Reading.TheVariants.{Unsigned}
use Rattle.element.specs.Views.{flip}
use Rattle.linear.specs.Sums.{adds}
use Rattle.vectors.specs.Register.{element}
use Rattle.parallel.proofs.Held.{subsuu-lane}
use Rattle.parallel.proofs.clipped.subsuu_s.Goals as goal

pub overflow_sub-down : goal.overflow_sub-down
overflow_sub-down c =
    let a = c.args in
    let share = shares a.w in
    let n = bits a.w in
    let t = own share a.t (search rules) in
    let h = c.tops-h.ensures in
    let m = same-lanes share c.least-m.ensures (λ i l. ap (min (element n a.t i)) (h.at i l)) in
    omega (arith, minus-fits share t m (λ i l. omega arith))

pub overflow_sub-up : goal.overflow_sub-up
overflow_sub-up c =
    let a = c.args in
    let share = shares a.w in
    let n = bits a.w in
    let h = c.tops-h.ensures in
    let m = same-lanes share c.least-m.ensures (λ i l. ap (min (element n a.t i)) (h.at i l)) in
    omega (arith, minus-fits share h m (λ i l. omega arith))

pub returns : goal.returns
returns c =
    let at = c in
    let a = at.args in
    let share = shares a.w in
    let n = bits a.w in
    let s = own share a.s (search rules) in
    let t = own share a.t (search rules) in
    let h = at.tops-h.ensures in
    let m = same-lanes share at.least-m.ensures (λ i l. ap (min (element n a.t i)) (h.at i l)) in
    let down = minus-lanes share t m (λ i l. omega arith) in
    let up = minus-lanes share h m (λ i l. omega arith) in
    same-lanes share c.flipped.ensures
    (λ i l. ap (flip n) (c.adds_u.ensures.at i l
    ∙ ap₂ (adds Unsigned n) (c.subs_u.ensures.at i l) refl)
    ∙ subsuu-lane n (size a.w) (fits share s i l) (fits share t i l) _ _ (down.at i l) (up.at i l))
