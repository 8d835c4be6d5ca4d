-- `parallel::clipped::adds_u` meets its contract. No sum passes the largest element.
use borrow.Author.Rules.{rules}
use mathlib.Core.Path.{ap}
use Prim.Native.Nat.{ℕ, ◌+◌, ◌-◌, ◌^◌, ◌<◌, min}
use native.Mathlib.Omega.{arith}
use Rattle.isa.specs.declared.Width.{Width}
use Rattle.isa.specs.Widths.{bits}
use Rattle.element.specs.declared.Reading.TheVariants.{Unsigned}
use Rattle.element.proofs.Widths.{size}
use Rattle.linear.specs.Sums.{adds}
use Rattle.linear.proofs.Forms.{adds-form}
use Rattle.vectors.specs.Register.{element}
use Rattle.vectors.proofs.ElementLaws.{element-below}
use Rattle.vectors.proofs.Sizes.{shares}
use Rattle.parallel.specs.Lanes.{Each1, Each2}
use Rattle.parallel.proofs.Words.{own, same-lanes, sum-lanes}
use Rattle.parallel.proofs.clipped.adds_u.Goals as goal

held-sums : (w : Width) (s t : ℕ) {x y : ℕ} → s < 2 ^ 64 → Each1 (bits w) x (λ e. 2 ^ bits w - 1 - e) s
    → Each2 (bits w) y min t x → Each2 (bits w) (s + y) (adds Unsigned (bits w)) s t
held-sums w s t h other least =
    let n = bits w in
    let below = element-below n s in
    let more = same-lanes (shares w) least (λ i l. ap (min (element n t i)) (other.at i l)) in
    same-lanes (shares w) (sum-lanes (shares w) (own (shares w) s h) more (λ i l. omega (arith, below i)))
    (λ i l. omega (
      arith,
      size w,
      adds-form n (size w) Unsigned (record { first = below i; second = element-below n t i }),
      below i,
    ))

pub overflow_add-result : goal.overflow_add-result
overflow_add-result c =
    let a = c.args in
    omega (
      arith,
      (held-sums a.w a.s a.t (search rules) c.inverse.ensures c.least.ensures).below,
    )

pub returns : goal.returns
returns c =
    let a = c.args in
    held-sums a.w a.s a.t (search rules) c.inverse.ensures c.least.ensures
