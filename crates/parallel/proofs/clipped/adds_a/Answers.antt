-- `parallel::clipped::adds_a` meets its contract. Each step is held.
use mathlib.Core.Path.{ap₂}
use Prim.Native.Nat.{ℕ, ◌+◌, ◌-◌, ◌≤◌, min}
use native.Mathlib.Omega.{arith}
use Rattle.isa.specs.declared.Width.{Width}
use Rattle.isa.specs.Widths.{bits}
use Rattle.element.specs.Value.{top, magnitude}
use Rattle.element.proofs.Widths.{size}
use Rattle.linear.specs.Sums.{adds_a}
use Rattle.vectors.proofs.Sizes.{shares}
use Rattle.parallel.specs.Lanes.{Lanes, Each1, Each2}
use Rattle.parallel.proofs.Words.{same-lanes, sum-lanes, minus-lanes, minus-fits}
use Rattle.parallel.proofs.clipped.adds_a.Goals as goal

module _ (w : Width) (s : ℕ) {m x f : ℕ} (lows : Lanes (bits w) m (λ _. top (bits w) - 1))
    (a : Each1 (bits w) x (magnitude (bits w)) s) (least : Each2 (bits w) f min x m) where
  first : Each1 (bits w) f (λ e. min (magnitude (bits w) e) (top (bits w) - 1)) s
  first = same-lanes (shares w) least (λ i l. ap₂ min (a.at i l) (lows.at i l))

  first_fits : f ≤ m
  first_fits = minus-fits (shares w) lows first (λ i l. omega arith)

  room : Each1 (bits w) (m - f) (λ e. top (bits w) - 1 - min (magnitude (bits w) e) (top (bits w) - 1)) s
  room = minus-lanes (shares w) lows first (λ i l. omega arith)

  both : (t : ℕ) {y g : ℕ} → Each1 (bits w) y (magnitude (bits w)) t → Each2 (bits w) g min y (m - f)
      → Each2 (bits w) (f + g) (adds_a (bits w)) s t
  unfolding adds_a
  both t b least =
      let second = same-lanes (shares w) least (λ i l. ap₂ min (b.at i l) (room.at i l)) in
      same-lanes (shares w) (sum-lanes (shares w) first second (λ i l. omega (arith, size w))) (λ i l. omega arith)

pub overflow_sub-room : goal.overflow_sub-room
overflow_sub-room c =
    let p = c in
    let a = p.args in
    omega (arith, first_fits a.w a.s p.lows-m.ensures p.magnitude.ensures c.least-a.ensures)

pub overflow_add-result : goal.overflow_add-result
overflow_add-result c =
    let at = c in
    let p = at in
    let a = p.args in
    omega (
      arith,
      (both a.w a.s p.lows-m.ensures p.magnitude.ensures at.least-a.ensures a.t
          c.magnitude-2.ensures c.least.ensures).below,
    )

pub returns : goal.returns
returns c =
    let at = c in
    let p = at in
    let a = p.args in
    both a.w a.s p.lows-m.ensures p.magnitude.ensures at.least-a.ensures a.t
    c.magnitude-2.ensures c.least.ensures
