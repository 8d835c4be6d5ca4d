-- Rows of bytes that go down in elements of m bytes, in a register, and in two registers side by side.
use mathlib.Core.Path.{◌≡◌, refl, sym, ap, ap₂, ◌∙◌}
use mathlib.Core.Bool.{cond}
use Prim.Native.Nat.{ℕ, suc, ◌+◌, ◌-◌, ◌*◌, ◌/◌, ◌%◌, ◌^◌, ◌≤◌, ◌<◌}
use native.Mathlib.Omega.{arith}
use native.Mathlib.Nat.{mod-lt, mod-le, mod-eq_of_lt, div-add-mod', div-lt_iff_lt-mul, mul-le-mul_right}
use native.Mathlib.Nat.{add-mul-mod_self_right}
use borrow.Author.Tests.{lt-ltb, le-ltb}
use lib.Dec.{ltb, lit<}
use lib.Pow.{pow_pos, pow-add, split, shr_lt}
use Rattle.bits.specs.Shifts.{sll}
use Rattle.element.proofs.Diff.{by-test}
use Rattle.isa.specs.declared.Width.{Width}
use Rattle.isa.specs.declared.Width.TheVariants.{B, H, W, D}
use Rattle.isa.specs.Widths.{bits}
use Rattle.memory.specs.declared.Register.{Register}
use Rattle.memory.specs.Value.{value}
use Rattle.memory.proofs.Values.{Words}
use Rattle.vectors.specs.Register.{element}
use Rattle.vectors.proofs.ElementLaws.{element-below, element-low, element-high}
use Rattle.vectors.proofs.Sizes.{Shares, shares}
use Rattle.vectors.proofs.Wholes.{value_low, value-high}
use Rattle.parallel.specs.Lanes.{Lanes}
use Rattle.parallel.proofs.Words.{sum-lanes, same-lanes}
use Rattle.parallel_bits.proofs.Amounts.{sll-lane}
use Rattle.parallel_pack.proofs.Places.{element-in, element-shift}
use Rattle.permute.specs.Permute.{both, slid_byte}
use Rattle.permute.proofs.SideLaws.{both_word}

-- the bytes of a from k on, j of them, and the first k bytes of b above them
abbrev funnelled : ℕ → ℕ → ℕ → ℕ → ℕ
funnelled a b k j = a / 2 ^ (8 * k) + b % 2 ^ (8 * k) * 2 ^ (8 * j)

module _ (a b k j : ℕ) (ha : a < 2 ^ (8 * j + 8 * k)) where
  first_below : a / 2 ^ (8 * k) < 2 ^ (8 * j)
  first_below = shr_lt (8 * j) (8 * k) ha

  funnelled-below : funnelled a b k j < 2 ^ (8 * j + 8 * k)
  funnelled-below =
      let cut : b % 2 ^ (8 * k) < 2 ^ (8 * k) = mod-lt b (pow_pos (8 * k)) in
      let above = mul-le-mul_right {m = suc (b % 2 ^ (8 * k))} {n = 2 ^ (8 * k)} (2 ^ (8 * j)) cut in
      rw (pow-add 2 (8 * j) (8 * k)) (omega (arith, first_below))

  funnelled-first : (i : ℕ) → i < j → element 8 (funnelled a b k j) i ≡ element 8 a (i + k)
  funnelled-first i l = element-low 8 j (a / 2 ^ (8 * k)) (b % 2 ^ (8 * k)) i l ∙ element-shift 8 a k i

  funnelled-second : (i : ℕ) → i < k → element 8 (funnelled a b k j) (j + i) ≡ element 8 b i
  funnelled-second i l =
      let whole : b % 2 ^ (8 * k) + b / 2 ^ (8 * k) * 2 ^ (8 * k) ≡ b = omega (arith, split b (8 * k)) in
      element-high 8 j (a / 2 ^ (8 * k)) (b % 2 ^ (8 * k)) first_below i
      ∙ sym (element-low 8 k (b % 2 ^ (8 * k)) (b / 2 ^ (8 * k)) i l) ∙ ap (λ z. element 8 z i) whole

-- an element of n bits has m bytes, and a word has whole elements
pub record Bytes (n m : ℕ) : Type 0 where
  pub bytes : 8 * m ≡ n
  pub word : 64 / n * m ≡ 8
  pub some : 0 < m

pub bytes_of : (w : Width) → Bytes (bits w) (bits w / 8)
bytes_of B = record { bytes = refl; word = refl; some = lit< tt }
bytes_of H = record { bytes = refl; word = refl; some = lit< tt }
bytes_of W = record { bytes = refl; word = refl; some = lit< tt }
bytes_of D = record { bytes = refl; word = refl; some = lit< tt }

module _ {n m : ℕ} (b : Bytes n m) where
  -- the row of a byte of a word; the row is in the word; rows of the next word
  row : (i : ℕ) → i < 8 → i / m < 64 / n
  row i l = (div-lt_iff_lt-mul b.some).1 (rw b.word l)

  stays : (i k : ℕ) → i < 8 → i % m + k < m → i + k < 8
  stays i k l h =
      omega (arith, b.word, div-add-mod' i m, mul-le-mul_right {m = suc (i / m)} {n = 64 / n} m (row i l))

  next_row : (i : ℕ) → (8 + i) % m ≡ i % m
  next_row i = ap (λ z. z % m) (omega (arith, b.word)) ∙ add-mul-mod_self_right i (64 / n) m

-- every element of s goes down by k bytes, and bytes of d come after it
module _ {n m : ℕ} (b : Bytes n m) (d s k : ℕ) (hk : k < m) where
  width : n ≡ 8 * (m - k) + 8 * k
  width = omega (arith, b.bytes)

  small : (i : ℕ) → element n s i < 2 ^ (8 * (m - k) + 8 * k)
  small i = rw (← width) (element-below n s i)

  -- the shift to the left, by what is left of u bits
  moved_up : {u : ℕ} → u ≡ n → 0 < k → (x : ℕ) → sll n x (u - 8 * k) ≡ x % 2 ^ (8 * k) * 2 ^ (8 * (m - k))
  moved_up {u} e some x =
      let left : u - 8 * k ≡ 8 * (m - k) = omega (arith, b.bytes) in
      let cut : n - (u - 8 * k) ≡ 8 * k = omega (arith, b.bytes) in
      sym (sll-lane n x (u - 8 * k) (omega (arith, b.bytes))) ∙ ap₂ (λ p q. x % 2 ^ p * 2 ^ q) cut left

  pub slid-lanes : Shares n → {x y u : ℕ} → u ≡ n → 0 < k
      → Lanes n x (λ i. element n s i / 2 ^ (8 * k)) → Lanes n y (λ i. sll n (element n d i) (u - 8 * k))
      → Lanes n (x + y) (λ i. funnelled (element n s i) (element n d i) k (m - k))
  slid-lanes share e some lx ly =
      sum-lanes share lx (same-lanes share ly (λ i l. moved_up e some (element n d i)))
      (λ i l. let power : 2 ^ n ≡ 2 ^ (8 * (m - k) + 8 * k) = ap (λ z. 2 ^ z) width in
      omega (arith, funnelled-below (element n s i) (element n d i) k (m - k) (small i)))

  pub slid-bytes : {r : ℕ} → Lanes n r (λ i. funnelled (element n s i) (element n d i) k (m - k))
      → Lanes 8 r (slid_byte m k d s)
  unfolding slid_byte
  slid-bytes {r} a = record { below = a.below; at = at }
    where
      inside : (x q i : ℕ) → i < m → element 8 (element n x q) i ≡ element 8 x (q * m + i)
      inside x q i l = rw b.bytes at (element-in 8 m x q i l)

      at : (p : ℕ) → p < 8 → element 8 r p ≡ slid_byte m k d s p
      at p l =
          let q = p / m in
          let i = p % m in
          let x = element n s q in
          let y = element n d q in
          let whole : q * m + i ≡ p = div-add-mod' p m in
          let in_row : i < m = mod-lt p b.some in
          let start : element 8 r p ≡ element 8 (funnelled x y k (m - k)) i =
          ap (element 8 r) (sym whole) ∙ sym (inside r q i in_row) ∙ ap (λ z. element 8 z i) (a.at q (row b p l)) in
          by-test (λ z. element 8 r p ≡ z) (i + k) m
          (λ h. start ∙ funnelled-first x y k (m - k) (small q) i (omega arith)
          ∙ inside s q (i + k) h ∙ ap (element 8 s) (omega arith))
          (λ h. let e : i ≡ m - k + (i + k - m) = omega arith in
          start ∙ ap (element 8 (funnelled x y k (m - k))) e
          ∙ funnelled-second x y k (m - k) (small q) (i + k - m) (omega arith)
          ∙ inside d q (i + k - m) (omega arith) ∙ ap (element 8 d) (omega arith))

-- by no byte
pub slid-none : {m : ℕ} → 0 < m → (d s i : ℕ) → element 8 s i ≡ slid_byte m 0 d s i
unfolding slid_byte
slid-none {m} some d s i =
    let e : i ≡ i + 0 = omega arith in
    rw (lt-ltb (i % m + 0) m (omega (arith, mod-lt i some))) (ap (element 8 s) e)

pick_same : (a b : ℕ) {x y x' y' : ℕ} → (a < b → x ≡ x') → (b ≤ a → y ≡ y')
    → cond (ltb a b) x y ≡ cond (ltb a b) x' y'
pick_same a b {x} {y} {x'} {y'} p q = by-test (λ z. z ≡ cond (ltb a b) x' y') a b
    (λ h. p h ∙ sym (ap (λ t. cond t x' y') (lt-ltb a b h)))
    (λ h. q h ∙ sym (ap (λ t. cond t x' y') (le-ltb a b h)))

-- rows of no more than a word are rows of the words
module _ {n m : ℕ} (b : Bytes n m) {d s : Register} (hd : Words d) (hs : Words s) (by : ℕ) (hb : by < m) where
  pub row_low : (i : ℕ) → i < 8 → slid_byte m by d.low s.low i ≡ slid_byte m by (value d) (value s) i
  unfolding slid_byte
  row_low i l =
      pick_same (i % m + by) m
      (λ h. sym (value_low (shares B) hs (i + by) (stays b i by l h)))
      (λ h. sym (value_low (shares B) hd (i + by - m) (omega arith)))

  pub row-high : (i : ℕ) → i < 8 → slid_byte m by d.high s.high i ≡ slid_byte m by (value d) (value s) (8 + i)
  unfolding slid_byte
  row-high i l =
      pick_same (i % m + by) m
      (λ h. sym (value-high (shares B) hs (i + by)) ∙ ap (element 8 (value s)) (omega arith))
      (λ h. sym (value-high (shares B) hd (i + by - m)) ∙ ap (element 8 (value d)) (omega (arith, mod-le i m)))
      ∙ ap (λ z. cond (ltb (z + by) m) (element 8 (value s) (8 + i + by)) (element 8 (value d) (8 + i + by - m)))
      (sym (next_row b i))

-- bytes of two words of a row of two registers
pub row_at : (s t q k i : ℕ) → k < 8 → i < 8
    → slid_byte 8 k (both 64 s t (q + 1)) (both 64 s t q) i ≡ both 8 s t (i + k + 8 * q)
unfolding slid_byte
row_at s t q k i hk l = by-test (λ y. y ≡ both 8 s t (i + k + 8 * q)) (i % 8 + k) 8
    (λ h. sym (both_word (shares B) s t q (i + k) (omega arith)))
    (λ h. sym (both_word (shares B) s t (q + 1) (i + k - 8) (omega arith)) ∙ ap (both 8 s t) (omega arith))

-- one row of sixteen bytes is two registers side by side
pub slid-row : (d s by i : ℕ) → i < 16 → both 8 d s (i + by) ≡ slid_byte 16 by d s i
unfolding both slid_byte
slid-row d s by i l =
    ap (λ z. cond (ltb (z + by) 16) (element 8 s (i + by)) (element 8 d (i + by - 16))) (sym (mod-eq_of_lt l))
