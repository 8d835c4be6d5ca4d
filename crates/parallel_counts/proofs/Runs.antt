-- Ones from the highest one of an element down, and the zeros above them.
use mathlib.Core.Path.{◌≡◌, sym, ap, ap₂, ◌∙◌}
use Prim.Native.Nat.{ℕ, zero, suc, ◌+◌, ◌-◌, ◌*◌, ◌/◌, ◌%◌, ◌^◌, ◌≤◌, ◌<◌}
use native.Mathlib.Omega.{arith}
use native.Mathlib.Nat.{mod-lt, mul-le-mul_right, add-mul-div_right, pow-suc}
use lib.Bits.{bit_or, or_lt, or_block, or_zero_r, or_add_and, and_le_l}
use lib.Count.{ones, ones_cat, ones-ones, count_leading_zeros, leading_length, leading_le}
use lib.Dec.{lit≤}
use lib.Pow.{pow_pos, pow-add, pow_mono, shr_lt, shr_le, shr_mono, high_ones}
use lib.Pow as pow
use Rattle.isa.specs.declared.Width.{Width}
use Rattle.isa.specs.declared.Width.TheVariants.{B, H, W, D}
use Rattle.isa.specs.Widths.{bits}
use Rattle.element.proofs.Diff.{by_order}
use Rattle.vectors.specs.Register.{element}
use Rattle.vectors.proofs.ElementLaws.{element-below}
use Rattle.vectors.proofs.Sizes.{shares}
use Rattle.parallel.specs.Lanes.{Each1}
use Rattle.parallel.proofs.Words.{same-lanes}
use Rattle.parallel_counts.specs.Runs.{Run, Runs}

-- what p times 2^k is at most, divided by 2^k
div-step : (y k c p : ℕ) → p * 2 ^ k ≤ y + c * 2 ^ k → p ≤ y / 2 ^ k + c
div-step y k c p h = omega (arith, shr_mono k h, pow.shl-shr p k, add-mul-div_right y c (pow_pos k))

or-ge : (a b : ℕ) → b ≤ bit_or a b
or-ge a b = omega (arith, or_add_and a b, and_le_l a b)

-- the bits of y from place t on stay, and those of q come below them
over-low : (y q t : ℕ) → q < 2 ^ t → y / 2 ^ t * 2 ^ t + q ≤ bit_or y q
over-low y q t h =
    let above = y / 2 ^ t in
    let below = y % 2 ^ t in
    let parts : bit_or y q ≡ bit_or (above * 2 ^ t + below) (0 * 2 ^ t + q) =
    ap₂ bit_or (sym (pow.split y t)) (omega arith) in
    let apart = or_block t above 0 below q (mod-lt y (pow_pos t)) h in
    omega (arith, parts, apart, ap (λ z. z * 2 ^ t) (or_zero_r above), or-ge below q)

run_more : (m k y : ℕ) → Run m k y → Run m (k + k) (bit_or y (y / 2 ^ k))
run_more m k y a =
    let t = m - k in
    let rest = m - (k + k) in
    let q = y / 2 ^ k in
    let wide : 2 ^ m ≤ 2 ^ (t + k) = pow_mono (omega arith) in
    let small : q < 2 ^ t = shr_lt t k (omega (arith, a.below, wide)) in
    let fewer : 2 ^ t ≤ 2 ^ (rest + k) = pow_mono (omega arith) in
    let upper : 2 ^ m ≡ 2 ^ (m - t) * 2 ^ t = ap (λ z. 2 ^ z) (omega arith) ∙ pow-add 2 (m - t) t in
    let next : 2 ^ t ≤ q + 2 ^ rest = by_order m k
    (λ h. let none : t ≡ 0 = omega arith in omega (arith, ap (λ z. 2 ^ z) none, pow_pos rest))
    (λ h.
    let whole : 2 ^ m ≡ 2 ^ t * 2 ^ k = ap (λ z. 2 ^ z) (omega arith) ∙ pow-add 2 t k in
    div-step y k (2 ^ rest) (2 ^ t) (omega (arith, a.high, whole, fewer, pow-add 2 rest k))) in
    let first : 2 ^ (m - t) ≤ y / 2 ^ t + 1 = div-step y t 1 (2 ^ (m - t)) (omega (arith, a.high, upper)) in
    let above = mul-le-mul_right {m = 2 ^ (m - t)} {n = y / 2 ^ t + 1} (2 ^ t) first in
    record {
      below = or_lt m y q a.below (omega (arith, shr_le y k, a.below));
      high = omega (arith, over-low y q t small, next, upper, above);
    }

run-all : {m k y : ℕ} → Run m k y → m ≤ k → y ≡ 2 ^ m - 1
run-all {m} {k} a h =
    let none : m - k ≡ 0 = omega arith in
    omega (arith, a.below, a.high, ap (λ z. 2 ^ z) none)

-- the bits of an element from its highest one down
module _ (n a : ℕ) (h : a < 2 ^ n) where
  run-first : Run (n - count_leading_zeros n a) 1 a
  run-first =
      let found = leading_length n a h in
      let same : found.0 ≡ n - count_leading_zeros n a = omega (arith, found.1) in
      rw (sym same) (go found.0 found.2 found.3)
    where
      go : (m : ℕ) → a < 2 ^ m → 2 ^ m ≤ 2 * a + 1 → Run m 1 a
      go zero b l = record { below = b; high = omega arith }
      go (suc m) b l =
          let e : suc m - 1 ≡ m = omega arith in
          record { below = b; high = rw e (omega (arith, l, pow-suc 2 m)) }

  zeros-lane : ones (2 ^ n - 1 - (2 ^ (n - count_leading_zeros n a) - 1)) ≡ count_leading_zeros n a
  zeros-lane =
      let z = count_leading_zeros n a in
      let k = n - z in
      let sum : 2 ^ n ≡ 2 ^ (z + k) = ap (λ p. 2 ^ p) (omega (arith, leading_le n a)) in
      let all : 2 ^ n - 1 - (2 ^ k - 1) ≡ (2 ^ z - 1) * 2 ^ k + 0 = omega (arith, sum, high_ones z k, pow_pos k) in
      ap ones all ∙ ones_cat k (2 ^ z - 1) 0 (pow_pos k) ∙ omega (arith, ones-ones z, ones-ones 0)

-- the same of all elements of a word
module _ (n s : ℕ) where
  pub runs-first : Runs n 1 s s
  runs-first i l = run-first n (element n s i) (element-below n s i)

  pub runs-more : (k x : ℕ) {r : ℕ} → Runs n k x s → Each1 n r (λ a. bit_or a (a / 2 ^ k)) x → Runs n (k + k) r s
  runs-more k x a b i l = rw (b.at i l) (run_more (n - count_leading_zeros n (element n s i)) k (element n x i) (a i l))

-- the ones of what a full run leaves
pub left_over : (w : Width) (s x y : ℕ) {r : ℕ} → Runs (bits w) (bits w) x s
    → Each1 (bits w) y (λ a. 2 ^ bits w - 1 - a) x → Each1 (bits w) r ones y
    → Each1 (bits w) r (count_leading_zeros (bits w)) s
left_over w s x y full other counted =
    let n = bits w in
    same-lanes (shares w) counted (λ i l.
    ap ones (other.at i l ∙ ap (λ z. 2 ^ n - 1 - z) (run-all (full i l) (omega arith)))
    ∙ zeros-lane n (element n s i) (element-below n s i))

pub at-least-8 : (w : Width) → 8 ≤ bits w
at-least-8 B = lit≤ tt
at-least-8 H = lit≤ tt
at-least-8 W = lit≤ tt
at-least-8 D = lit≤ tt
