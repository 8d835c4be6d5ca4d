-- Sums of the two halves of every element, and what they make of counts.
use mathlib.Core.Path.{◌≡◌, refl, sym, ap, ap₂, ◌∙◌}
use Prim.Native.Nat.{ℕ, zero, suc, ◌+◌, ◌-◌, ◌*◌, ◌/◌, ◌%◌, ◌^◌, ◌≤◌, ◌<◌}
use native.Mathlib.Omega.{arith}
use native.Mathlib.Nat.{mod-lt, mul-le-mul_right, mul-div_cancel}
use lib.Bits.{bit_and, and_mask}
use lib.Count.{ones, ones_step, ones_cat, ones-le, ones-ones}
use lib.Pow.{pow_pos, pow-add, pow_mono, shr_lt}
use lib.Pow as pow
use Rattle.element.proofs.Widths.{sized}
use Rattle.vectors.specs.Register.{element, build}
use Rattle.vectors.proofs.ElementLaws.{element-below}
use Rattle.vectors.proofs.Sizes.{Shares, shares-bit}
use Rattle.parallel.specs.Lanes.{Lanes, Each1}
use Rattle.parallel.proofs.Words.{own, same-lanes, made, sum-lanes, and-lanes, shr_lanes}
use Rattle.parallel_pack.proofs.Places.{Doubles, doubled}

-- a width of which a word has a whole number
module _ (n : ℕ) (whole : n * (64 / n) ≡ 64) where
  some : 0 < n
  some = go n whole
    where
      go : (k : ℕ) → k * (64 / n) ≡ 64 → 0 < k
      go zero e = absurd (omega arith)
      go (suc k) e = omega arith

  filling : Shares n
  filling =
      let twice : 128 ≡ (64 / n + 64 / n) * n = omega (arith, whole) in
      let two : 128 / n ≡ 64 / n + 64 / n = ap (λ z. z / n) twice ∙ mul-div_cancel (64 / n + 64 / n) some in
      record { word = whole; register = rw two (omega (arith, whole)); double = two }

  width_fits : n ≤ 64
  width_fits = go (64 / n) whole
    where
      go : (q : ℕ) → n * q ≡ 64 → n ≤ 64
      go zero e = absurd (omega arith)
      go (suc q) e = omega arith

-- half of such a width
module _ (n : ℕ) (whole : (n + n) * (64 / (n + n)) ≡ 64) where
  half-some : 0 < n
  half-some = omega (arith, some (n + n) whole)

  pub half-below : n < 64
  half-below = omega (arith, width_fits (n + n) whole, half-some)

  doubling : Doubles n
  doubling =
      let q = 64 / (n + n) in
      let all : 64 / n ≡ q * 2 = ap (λ z. z / n) (omega (arith, whole)) ∙ mul-div_cancel (q * 2) half-some in
      let lower : 32 / n ≡ q = ap (λ z. z / n) (omega (arith, whole)) ∙ mul-div_cancel q half-some in
      record {
        one = filling n (rw all (omega (arith, whole)));
        two = filling (n + n) whole;
        count = all;
        half = rw (all, lower) (omega arith);
        part = rw lower (omega (arith, whole));
      }

  -- the mask of the low halves
  pub low_halves : {m : ℕ} → m ≡ build (n + n) (λ _. 2 ^ n - 1) (64 / (n + n)) → Lanes (n + n) m (λ _. 2 ^ n - 1)
  low_halves e =
      let more : n ≤ n + n = omega arith in
      made (filling (n + n) whole) (λ _. 2 ^ n - 1) e (λ i l. omega (arith, pow_pos n, pow_mono more))

  pair-below : (a : ℕ) → a < 2 ^ (n + n) → a % 2 ^ n + a / 2 ^ n < 2 ^ (n + n)
  pair-below a l =
      let two : 2 ^ 1 ≤ 2 ^ n = pow_mono half-some in
      let more = mul-le-mul_right {m = 2} {n = 2 ^ n} (2 ^ n) (omega arith) in
      omega (arith, mod-lt a (pow_pos n), shr_lt n n l, pow-add 2 n n, more)

  pub pair-lanes : (x m : ℕ) → x < 2 ^ 64 → Lanes (n + n) m (λ _. 2 ^ n - 1)
      → Each1 (n + n) (bit_and x m + bit_and (x / 2 ^ n) m) (λ a. a % 2 ^ n + a / 2 ^ n) x
  pair-lanes x m h mask =
      let share = filling (n + n) whole in
      let all = own share x h in
      sum-lanes share
      (same-lanes share (and-lanes share all mask) (λ i l. and_mask (element (n + n) x i) n))
      (shr_lanes share all n n refl mask)
      (λ i l. pair-below (element (n + n) x i) (element-below (n + n) x i))

  -- the counts of both halves are the count of the whole
  pair-lane : (u v a e : ℕ) → u < 2 ^ n → a ≡ ones u + ones v * 2 ^ n → e ≡ u + v * 2 ^ n
      → a % 2 ^ n + a / 2 ^ n ≡ ones e
  pair-lane u v a e hu ea ee =
      let size = sized n half-some (omega (arith, half-below)) in
      let small : ones u < 2 ^ n = omega (arith, ones-le n u hu, size.bits_below) in
      let counts : a ≡ ones v * 2 ^ n + ones u = omega arith in
      let number : e ≡ v * 2 ^ n + u = omega arith in
      ap₂ (λ p q. p + q)
      (ap (λ z. z % 2 ^ n) counts ∙ pow.low (ones v) n small)
      (ap (λ z. z / 2 ^ n) counts ∙ pow.high (ones v) n small)
      ∙ omega arith ∙ sym (ap ones number ∙ ones_cat n v u hu)

  -- so counts of n bits become counts of twice as many
  pub wider : {x r : ℕ} (s : ℕ) → s < 2 ^ 64 → Each1 n x ones s
      → Each1 (n + n) r (λ a. a % 2 ^ n + a / 2 ^ n) x → Each1 (n + n) r ones s
  wider {x} s h a b = same-lanes (filling (n + n) whole) b (λ j l.
      pair-lane (element n s (j * 2)) (element n s (suc (j * 2))) (element (n + n) x j) (element (n + n) s j)
      (element-below n s (j * 2))
      ((doubled doubling (λ i. ones (element n s i)) a).at j l)
      ((doubled doubling (element n s) (own doubling.one s h)).at j l))

-- a bit is its own count
bit-ones : (b : ℕ) → b < 2 → b ≡ ones b
bit-ones b h =
    let rest : b / 2 ≡ 0 = omega arith in
    sym (ones_step b ∙ omega (arith, ap ones rest, ones-ones 0))

pub bits-counted : (s : ℕ) → s < 2 ^ 64 → Each1 1 s ones s
bits-counted s h = same-lanes shares-bit (own shares-bit s h) (λ i l. bit-ones (element 1 s i) (element-below 1 s i))
