-- Single bits, fields, counts and narrower ranges of an element.
-- Assumes nothing.
use mathlib.Core.Path.{◌≡◌, refl, ap, ◌∙◌}
use Prim.Native.Nat.{ℕ, zero, suc, ◌+◌, ◌-◌, ◌*◌, ◌/◌, ◌^◌, ◌≤◌, ◌<◌, min, max}
use native.Mathlib.Omega.{arith}
use native.Mathlib.Nat.{div-add-mod', mod-lt, div-lt_iff_lt-mul, le-div_iff_mul-le}
use lib.Arith.{digits_lt}
use lib.Count.{count_leading_zeros, leading_length, leading_unique}
use lib.Pow.{pow_pos, pow-add, pow_mono}
use Rattle.element.specs.declared.Reading.TheVariants.{Unsigned, Signed}
use Rattle.element.specs.Value.{top}
use Rattle.element.specs.Views.{flip}
use Rattle.element.proofs.Diff.{diff-pos, diff-neg, diff-to}
use Rattle.element.proofs.Readings.{value-diff, clamp-view}
use Rattle.element.proofs.Widths.{Size}
use Rattle.bits.specs.Places.{bit_at, with_bit, over, sat_to}

-- 2^m in steps of 2^k
steps : (m k : ℕ) → k ≤ m → 2 ^ m ≡ 2 ^ (m - k) * 2 ^ k
steps m k h = ap (λ x. 2 ^ x) (omega arith) ∙ pow-add 2 (m - k) k

pub over_below : (m d s p : ℕ) → s < 2 ^ m → p ≤ m → over d s p < 2 ^ m
unfolding over
over_below m d s p h l =
    let e = steps m p l in
    rw e (digits_lt ((div-lt_iff_lt-mul (pow_pos p)).1 (rw e at h)) (mod-lt d (pow_pos p)))

-- at place 64 nothing of the upper number is left
pub over-all : (d s : ℕ) → d < 2 ^ 64 → s < 2 ^ 64 → s ≡ over s d 64
unfolding over
over-all d s h l = omega arith

-- a place's weight is at most the top bit's
pub place-le : (n k : ℕ) → k < n → 2 ^ k ≤ top n
place-le n k h = pow_mono (omega arith)

pub bit-small : (x k : ℕ) → bit_at x k < 2
unfolding bit_at
bit-small x k = mod-lt (x / 2 ^ k) (omega arith)

-- a set bit can be taken away
pub bit_le : (x k : ℕ) → (bit_at x k ≡ 0 → ⊥) → 2 ^ k ≤ x
unfolding bit_at
bit_le x k some = omega (arith, (le-div_iff_mul-le {x = 1} {y = x} (pow_pos k)).0 (omega arith))

-- and a clear bit set
bit-room : (n x k : ℕ) → x < 2 ^ n → k < n → bit_at x k ≡ 0 → x + 2 ^ k < 2 ^ n
unfolding bit_at
bit-room n x k h l none =
    let e = steps n k (omega arith) in
    let even : 2 ^ (n - k) ≡ 2 ^ (n - k - 1) * 2 = ap (λ y. 2 ^ y) (omega arith) ∙ pow-add 2 (n - k - 1) 1 in
    let high = (div-lt_iff_lt-mul (pow_pos k)).1 (rw e at h) in
    let sum = digits_lt {q = x / 2 ^ k + 1} {m = 2 ^ (n - k)} (omega arith) (mod-lt x (pow_pos k)) in
    omega (arith, div-add-mod' x (2 ^ k))

module _ (x k : ℕ) where
  pub clear_none : bit_at x k ≡ 0 → x ≡ with_bit x k 0
  unfolding with_bit
  clear_none e = rw e (omega arith)

  pub clear-some : (bit_at x k ≡ 0 → ⊥) → x - 2 ^ k ≡ with_bit x k 0
  unfolding with_bit
  clear-some some =
      let one : bit_at x k ≡ 1 = omega (arith, bit-small x k) in
      rw one (omega arith)

  pub with-some : (b : ℕ) → (b ≡ 0 → ⊥) → b < 2 → with_bit x k 0 + 2 ^ k ≡ with_bit x k b
  unfolding with_bit
  with-some b some small =
      let one : b ≡ 1 = omega arith in
      rw one (omega arith)

  pub cleared : (n : ℕ) → x < 2 ^ n → k < n → with_bit x k 0 + 2 ^ k < 2 ^ n
  cleared n h l = go (bit_at x k) refl
    where
      go : (b : ℕ) → bit_at x k ≡ b → with_bit x k 0 + 2 ^ k < 2 ^ n
      go zero e = omega (arith, clear_none e, bit-room n x k h l e)
      go (suc b) e = omega (arith, clear-some (λ z. omega arith), bit_le x k (λ z. omega arith))

  pub with-below : (n b : ℕ) → b < 2 → x < 2 ^ n → k < n → with_bit x k b < 2 ^ n
  with-below n zero small h l = omega (arith, cleared n h l)
  with-below n (suc b) small h l = omega (arith, cleared n h l, with-some (suc b) (λ z. omega arith) small)

-- an element has the leading zeros that it has as a u64, less those above the element
pub leading_narrow : (n x : ℕ) → x < 2 ^ n → n ≤ 64 → count_leading_zeros n x + (64 - n) ≡ count_leading_zeros 64 x
leading_narrow n x h l =
    let m = leading_length n x h in
    leading_unique 64 x (count_leading_zeros n x + (64 - n)) m.0 (omega arith) m.2 m.3

-- the range of m + 1 bits, in views
module _ (n : ℕ) (size : Size n) (s m : ℕ) (below : s < 2 ^ n) (small : m < n) where
  place : top (m + 1) ≡ 2 ^ m
  place = ap (λ x. 2 ^ x) (omega arith)

  pub sat_s-form : sat_to Signed n s m ≡ flip n (max (top n - 2 ^ m) (min (flip n s) (top n + (2 ^ m - 1))))
  unfolding sat_to
  sat_s-form =
      let within = place-le n m small in let some = pow_pos m in
      clamp-view n size Signed {l = top n - 2 ^ m} {m = top n + (2 ^ m - 1)}
      (diff-to (diff-neg (diff-pos (top (m + 1)))) (omega (arith, place)))
      (diff-to (diff-pos (top (m + 1) - 1)) (omega (arith, place)))
      (omega arith) (omega arith) (value-diff n size Signed below)
      ∙ ap (λ u. flip n (max (top n - 2 ^ m) (min u (top n + (2 ^ m - 1))))) (omega arith)

  pub sat_u-form : sat_to Unsigned n s m ≡ max 0 (min s (2 ^ m - 1 + 2 ^ m))
  unfolding sat_to
  sat_u-form =
      let within = place-le n m small in let some = pow_pos m in
      let twice : 2 ^ (m + 1) ≡ 2 ^ m * 2 = pow-add 2 m 1 in
      clamp-view n size Unsigned {l = 0} {m = 2 ^ m - 1 + 2 ^ m} (diff-pos 0)
      (diff-to (diff-pos (2 ^ (m + 1) - 1)) (omega arith))
      (omega arith) (omega arith) (value-diff n size Unsigned below)
      ∙ ap (λ u. max 0 (min u (2 ^ m - 1 + 2 ^ m))) (omega arith)
