-- The views over the reading: one law each for the signed and the unsigned operations.
-- Assumes nothing.
use mathlib.Core.Path.{◌≡◌, ap, ◌∙◌}
use mathlib.Core.Bool.{not}
use Prim.Native.Nat.{ℕ, ◌+◌, ◌-◌, ◌^◌, ◌≤◌, ◌<◌, min, max}
use native.Mathlib.Omega.{arith}
use lib.Dec.{ltb, leb}
use lib.IntN.{ℤ}
use lib.Signed.{lt_z, le_z}
use Rattle.element.specs.declared.Reading.{Reading}
use Rattle.element.specs.declared.Reading.TheVariants.{Unsigned, Signed}
use Rattle.element.specs.Elements.{Elements}
use Rattle.element.specs.Value.{top, value, wrap, clamp, lowest, highest, sat}
use Rattle.element.specs.Views.{view, bias}
use Rattle.element.proofs.Widths.{Size}
use Rattle.element.proofs.Diff.{Diff, by-test, same_test, diff-pos, diff-neg, diff-to, diff-lt, leb-not, le_z-not}
use Rattle.element.proofs.Views.{wrap-is, wrap-below, wrap-flip, flip-below, signed-diff}

module _ (n : ℕ) (size : Size n) where
  pub view-below : (g : Reading) {x : ℕ} → x < 2 ^ n → view g n x < 2 ^ n
  view-below Unsigned h = h
  view-below Signed h = flip-below n size h

  -- x stands for its view less the bias
  pub value-diff : (g : Reading) {x : ℕ} → x < 2 ^ n → Diff (value g n x) (view g n x) (bias g n)
  value-diff Unsigned {x} h = diff-pos x
  value-diff Signed h = signed-diff n size h

  -- and back: the element for u less the bias
  pub wrap-view : (g : Reading) {z : ℤ} {a b : ℕ} (u : ℕ) → Diff z a b → a + bias g n ≡ u + b → u < 2 ^ n → wrap n z ≡ view g n u
  wrap-view Unsigned u d e h = wrap-is n d u 0 0 h (omega arith)
  wrap-view Signed u d e h = wrap-flip n size u d e h

  -- a number held to a range, from l less the bias to m less the bias
  pub clamp-view : (g : Reading) {lo hi z : ℤ} {a b l m : ℕ} → Diff lo l (bias g n) → Diff hi m (bias g n) → l ≤ m → m < 2 ^ n → Diff z a b
      → wrap n (clamp lo hi z) ≡ view g n (max l (min (a + bias g n - b) m))
  unfolding clamp
  clamp-view g {a = a} {b} {l} {m} least most up room d =
      rw (diff-lt d least, diff-lt most d)
      (by-test (λ y. wrap n y ≡ view g n (max l (min (a + bias g n - b) m))) (a + bias g n) (l + b)
      (λ h. wrap-view g l least (omega arith) (omega arith) ∙ ap (view g n) (omega arith))
      (λ k. by-test (λ y. wrap n y ≡ view g n (max l (min (a + bias g n - b) m))) (m + b) (a + bias g n)
      (λ h. wrap-view g m most (omega arith) (omega arith) ∙ ap (view g n) (omega arith))
      (λ h. wrap-view g (a + bias g n - b) d (omega arith) (omega arith) ∙ ap (view g n) (omega arith))))

  lowest-diff : (g : Reading) → Diff (lowest g n) 0 (bias g n)
  lowest-diff Unsigned = diff-pos 0
  lowest-diff Signed = diff-neg (diff-pos (top n))

  highest-diff : (g : Reading) → Diff (highest g n) (2 ^ n - 1) (bias g n)
  highest-diff Unsigned = diff-pos (2 ^ n - 1)
  highest-diff Signed = diff-to (diff-pos (top n - 1)) (omega arith)

  pub sat-view : (g : Reading) {z : ℤ} {a b : ℕ} → Diff z a b → sat g n z ≡ view g n (min (a + bias g n - b) (2 ^ n - 1))
  unfolding sat
  sat-view g d = clamp-view g (lowest-diff g) (highest-diff g) (omega arith) (omega arith) d ∙ ap (view g n) (omega arith)

  pub sat-below : (g : Reading) (z : ℤ) → sat g n z < 2 ^ n
  unfolding sat
  sat-below g z = wrap-below n _

  -- the order of the values is that of the views
  pub less-view : (g : Reading) {s t : ℕ} → Elements n s t → lt_z (value g n s) (value g n t) ≡ ltb (view g n s) (view g n t)
  less-view g {s} {t} e =
      diff-lt (value-diff g e.first) (value-diff g e.second)
      ∙ same_test (view g n s + bias g n) (view g n t + bias g n) (view g n s) (view g n t) (λ l. omega arith) (λ l. omega arith)

  pub not-more-view : (g : Reading) {s t : ℕ} → Elements n s t → le_z (value g n s) (value g n t) ≡ leb (view g n s) (view g n t)
  not-more-view g {s} {t} e =
      le_z-not (value g n s) (value g n t)
      ∙ ap not (less-view g (record { first = e.second; second = e.first }))
      ∙ leb-not (view g n s) (view g n t)
