-- Two registers side by side: their elements, and the words that these are in.
use mathlib.Core.Path.{◌≡◌, refl, sym, ap, ap₂, ◌∙◌}
use Prim.Native.Nat.{ℕ, zero, suc, ◌+◌, ◌-◌, ◌*◌, ◌/◌, ◌%◌, ◌^◌, ◌≤◌, ◌<◌}
use native.Mathlib.Omega.{arith}
use native.Mathlib.Nat.{mod-lt, div-add-mod', mul-le-mul_left, mod-eq_of_lt, div-one}
use borrow.Author.Tests.{lt-ltb, le-ltb}
use lib.Dec.{lit<}
use Rattle.element.proofs.Diff.{by_order}
use Rattle.isa.specs.declared.Width.{Width}
use Rattle.isa.specs.declared.Width.TheVariants.{D}
use Rattle.isa.specs.Widths.{bits}
use Rattle.memory.specs.declared.Register.{Register}
use Rattle.memory.specs.Value.{value}
use Rattle.memory.proofs.Values.{Words}
use Rattle.vectors.specs.Register.{element}
use Rattle.vectors.proofs.Sizes.{Shares, shares, few, inside}
use Rattle.vectors.proofs.Wholes.{value_low, value-high}
use Rattle.parallel_pack.proofs.Places.{element-in}
use Rattle.permute.specs.Permute.{both}

pub place-first : (n s t j : ℕ) {k : ℕ} → j ≡ k → j < 128 / n → element n t j ≡ both n s t k
unfolding both
place-first n s t j {k} e l = rw (← e) (rw (lt-ltb j (128 / n) l) (ap (element n t) (omega arith)))

pub place-second : (n s t j : ℕ) {k : ℕ} → k ≡ 128 / n + j → element n s j ≡ both n s t k
unfolding both
place-second n s t j {k} e = rw (le-ltb k (128 / n) (omega arith)) (ap (element n s) (omega arith))

-- an element of a word of a register
element-of-word : {n : ℕ} → Shares n → (v a b : ℕ) → b < 64 / n
    → element n (element 64 v a) b ≡ element n v (b + 64 / n * a)
element-of-word {n} share v a b l =
    (rw share.word at (element-in n (64 / n) v a b l)) ∙ ap (element n v) (omega arith)

-- the place j is in word j / m, at j % m
pub both_word : {n : ℕ} → Shares n → (s t a b : ℕ) → b < 64 / n
    → both n s t (b + 64 / n * a) ≡ element n (both 64 s t a) b
both_word {n} share s t a b l = by_order a 2
    (λ h. sym (place-first n s t (b + 64 / n * a) refl
    (omega (arith, share.double, mul-le-mul_left (64 / n) (below h))))
    ∙ sym (element-of-word share t a b l) ∙ ap (λ z. element n z b) (place-first 64 s t a refl h))
    (λ h. let e : a ≡ 2 + (a - 2) = omega arith in
    sym (place-second n s t (b + 64 / n * (a - 2)) (ap (λ z. b + 64 / n * z) e ∙ omega (arith, share.double)))
    ∙ sym (element-of-word share s (a - 2) b l) ∙ ap (λ z. element n z b) (place-second 64 s t (a - 2) e))
  where
    below : a < 2 → a ≤ 1
    below h = omega arith

-- a place in bits
record Spot (n j p : ℕ) : Type 0 where
  word : p / 64 ≡ j / (64 / n)
  bit : p % 64 ≡ n * (j % (64 / n))

spot : {n : ℕ} → Shares n → 0 < 64 / n → (j : ℕ) → Spot n j (n * j)
spot {n} share some j =
    let whole : n * j ≡ 64 * (j / (64 / n)) + n * (j % (64 / n)) =
    ap (λ z. n * z) (sym (div-add-mod' j (64 / n))) ∙ mix (j / (64 / n)) (j % (64 / n)) in
    let small : n * (j % (64 / n)) < 64 = omega (arith, inside share (j % (64 / n)) (mod-lt j some), pos) in
    record { word = omega arith; bit = omega arith }
  where
    mix : (a b : ℕ) → n * (a * (64 / n) + b) ≡ 64 * a + n * b
    mix a b =
        let e : n * (a * (64 / n) + b) ≡ n * (64 / n) * a + n * b = omega arith in
        e ∙ rw share.word refl

    pos : 0 < n
    pos = positive n share.word
      where
        positive : (k : ℕ) → k * (64 / n) ≡ 64 → 0 < k
        positive zero e = absurd (omega arith)
        positive (suc k) e = omega arith

-- an element of them in its word
pub both_at : (w : Width) (s t j : ℕ)
    → both (bits w) s t j ≡ both 64 s t (bits w * j / 64) / 2 ^ (bits w * j % 64) % 2 ^ bits w
unfolding element
both_at w s t j =
    let m = 64 / bits w in
    let at = spot (shares w) (few w).some j in
    let whole : j ≡ j % m + m * (j / m) = omega (arith, div-add-mod' j m) in
    ap (both (bits w) s t) whole ∙ both_word (shares w) s t (j / m) (j % m) (mod-lt j (few w).some)
    ∙ sym (ap₂ (λ q k. both 64 s t q / 2 ^ k % 2 ^ bits w) at.word at.bit)

-- a register's words are its elements of 64 bits
word-element : (x : ℕ) → x < 2 ^ 64 → element 64 x 0 ≡ x
unfolding element
word-element x h = ap (λ z. z % 2 ^ 64) (div-one x) ∙ mod-eq_of_lt h

module _ {v : Register} (hv : Words v) where
  pub low_word : v.low ≡ element 64 (value v) 0
  low_word = sym (value_low (shares D) hv 0 (lit< tt) ∙ word-element v.low hv.low)

  pub high_word : v.high ≡ element 64 (value v) 1
  high_word = sym (value-high (shares D) hv 0 ∙ word-element v.high hv.high)
