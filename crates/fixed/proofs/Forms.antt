-- The fixed-point multiplies in natural numbers: what is left of the definition in ℤ once the views have been put in.
-- Assumes nothing.
use mathlib.Core.Path.{◌≡◌, ap, ◌∙◌}
use mathlib.Core.Bool.{Bool, true, false}
use Prim.Native.Nat.{ℕ, ◌+◌, ◌-◌, ◌*◌, ◌/◌, ◌^◌, ◌<◌, min}
use native.Mathlib.Omega.{arith}
use native.Mathlib.Nat.{zero-mul, add-mul-div_right}
use borrow.Author.Tests.{lt-ltb}
use lib.IntN.{+ℤ_idl}
use Rattle.element.specs.declared.Reading.TheVariants.{Signed}
use Rattle.element.specs.Elements.{Elements}
use Rattle.element.specs.Value.{top, signed}
use Rattle.element.specs.Views.{flip}
use Rattle.element.proofs.Diff.{Diff, diff-pos, diff-add, diff-minus, diff-mul, diff-shr, diff-to}
use Rattle.element.proofs.Readings.{sat-view}
use Rattle.element.proofs.Views.{flip-below, signed-diff}
use Rattle.element.proofs.Widths.{Size}
use Rattle.fixed.specs.Parts.{factor}
use Rattle.fixed.specs.Fixed.{product, widened, summed, rounding, cut}

module _ (n : ℕ) (size : Size n) {s t : ℕ} (e : Elements n s t) where
  pub product-diff : Diff (product n s t) (flip n s * flip n t + top n * top n) (flip n s * top n + top n * flip n t)
  unfolding product
  product-diff = diff-mul (signed-diff n size e.first) (signed-diff n size e.second)

  added-to-none : summed false n 0 s t ≡ product n s t
  unfolding widened signed
  added-to-none = rw (lt-ltb 0 (top n) size.some, zero-mul (top n)) (+ℤ_idl (product n s t))

  -- a product alone is one added to 0
  pub alone : (rounded : Bool) {r : ℕ} → r ≡ cut rounded n (summed false n 0 s t) → r ≡ cut rounded n (product n s t)
  alone rounded h = h ∙ ap (cut rounded n) added-to-none

  module _ {d : ℕ} (old : d < 2 ^ n) where
    widened-diff : Diff (widened n d) (flip n d * top n) (top n * top n)
    unfolding widened
    widened-diff = diff-to (diff-mul (signed-diff n size old) (diff-pos (top n))) (omega arith)

    -- the exact number, over a multiple of 2^(n − 1)
    summed-diff : (minus : Bool)
        → Diff (summed minus n d s t) (flip n s * factor minus n t + (flip n d + top n) * top n)
        ((top n + flip n s + factor minus n t) * top n)
    summed-diff false = diff-to (diff-add widened-diff product-diff) (omega arith)
    summed-diff true =
        let b : ℕ = 2 ^ n - flip n t in
        let whole : b + flip n t ≡ top n + top n = omega (arith, size.twice, flip-below n size e.second) in
        diff-to (diff-minus widened-diff product-diff)
        (omega (arith, ap (λ x. flip n s * x) whole, ap (λ x. top n * x) whole))

    pub cut-form : (rounded minus : Bool) → cut rounded n (summed minus n d s t)
        ≡ flip n (min (flip n d + ((flip n s * factor minus n t + rounding rounded n) / top n + top n)
        - (flip n s + factor minus n t)) (2 ^ n - 1))
    unfolding cut
    cut-form rounded minus =
        let x : ℕ = flip n s * factor minus n t + rounding rounded n in
        sat-view n size Signed
        (diff-shr {a = x + (flip n d + top n) * top n} {b = top n + flip n s + factor minus n t} (top n) size.some
        (diff-to (diff-add (summed-diff minus) (diff-pos (rounding rounded n))) (omega arith)))
        ∙ ap (flip n) (omega (arith, add-mul-div_right x (flip n d + top n) size.some))
