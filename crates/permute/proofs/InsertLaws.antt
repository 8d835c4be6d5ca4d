-- One element of a word anew.
use mathlib.Core.Path.{◌≡◌, refl, sym, ap, ap₂, ◌∙◌}
use mathlib.Core.Bool.{Bool, true, false, cond}
use Prim.Native.Nat.{ℕ, zero, suc, ◌+◌, ◌-◌, ◌*◌, ◌/◌, ◌%◌, ◌^◌, ◌≤◌, ◌<◌}
use native.Mathlib.Omega.{arith}
use native.Mathlib.Nat.{mod-lt, mod-eq_of_lt}
use borrow.Author.Tests.{eq-eqb, ne_eqb, eqb-true, eqb-false}
use lib.Dec.{eqb}
use Rattle.element.proofs.Diff.{by_order}
use lib.Pow.{pow_pos}
use Rattle.memory.specs.declared.Register.{Register}
use Rattle.memory.specs.Value.{value}
use Rattle.memory.proofs.Values.{Words}
use Rattle.vectors.specs.Register.{element, build, whole}
use Rattle.vectors.proofs.ElementLaws.{element-below, build-same}
use Rattle.vectors.proofs.Sizes.{Shares}
use Rattle.vectors.proofs.Wholes.{value_low, value-high, whole-element}
use Rattle.parallel.specs.Lanes.{Lanes}
use Rattle.parallel.proofs.Words.{own, same-lanes, made, sum-lanes, minus-lanes, minus-fits}
use Rattle.permute.specs.Permute.{with_element}

by_equal : {P : Type 0} (a b : ℕ) → (eqb a b ≡ true → a ≡ b → P) → (eqb a b ≡ false → P) → P
by_equal {P} a b f g = go (eqb a b) refl
  where
    go : (t : Bool) → eqb a b ≡ t → P
    go true e = f e (eqb-true a b e)
    go false e = g e

-- y at place i and 0 elsewhere
abbrev pub only : ℕ → ℕ → ℕ → ℕ
only i y j = cond (eqb j i) y 0

module _ (n i y : ℕ) where
  before : (m : ℕ) → m ≤ i → build n (only i y) m ≡ 0
  unfolding build
  before zero h = refl
  before (suc m) h = rw (ne_eqb m i (λ e. absurd (omega arith))) (omega (arith, before m (omega arith)))

  pub build-only : (m : ℕ) → i < m → build n (only i y) m ≡ y * 2 ^ (n * i)
  unfolding build
  build-only zero h = absurd (omega arith)
  build-only (suc m) h = by_equal m i
      (λ t e. let here : 0 + y * 2 ^ (n * m) ≡ y * 2 ^ (n * m) = omega arith in
      ap₂ (λ z b. z + cond b y 0 * 2 ^ (n * m)) (before m (omega arith)) t ∙ here ∙ ap (λ z. y * 2 ^ (n * z)) e)
      (λ t. let d = eqb-false m i t in
      let less : i < m = by_order i m (λ k. k) (λ k. absurd (d (omega arith))) in
      let none : y * 2 ^ (n * i) + 0 * 2 ^ (n * m) ≡ y * 2 ^ (n * i) = omega arith in
      ap₂ (λ z b. z + cond b y 0 * 2 ^ (n * m)) (build-only m less) t ∙ none)

module _ {n : ℕ} (share : Shares n) where
  pub only-lanes : (i y : ℕ) → i < 64 / n → y < 2 ^ n → Lanes n (y * 2 ^ (n * i)) (only i y)
  only-lanes i y l h = made share (only i y) (sym (build-only n i y (64 / n) l))
      (λ j k. by_equal j i (λ t e. rw t h) (λ t. rw t (pow_pos n)))

  module _ (d i x : ℕ) (hd : d < 2 ^ 64) (l : i < 64 / n) where
    less : (j : ℕ) → j < 64 / n → only i (element n d i) j ≤ element n d j
    less j k = by_equal j i (λ t e. rw (t, e) (omega arith)) (λ t. rw t (omega arith))

    pub old-fits : element n d i * 2 ^ (n * i) ≤ d
    old-fits = minus-fits share (own share d hd) (only-lanes i (element n d i) l (element-below n d i)) less

    -- a part that was taken and moved back
    pub moved_back : {k e : ℕ} → k ≡ n → e ≡ element n d i → e * 2 ^ (k * i) % 2 ^ 64 ≡ element n d i * 2 ^ (n * i)
    moved_back {k} {e} ek ee =
        ap₂ (λ a b. a * 2 ^ (b * i) % 2 ^ 64) ee ek ∙ mod-eq_of_lt (let h = old-fits in omega arith)

    new-moved : {k y : ℕ} → k ≡ n → y ≡ x % 2 ^ n → y * 2 ^ (k * i) % 2 ^ 64 ≡ x % 2 ^ n * 2 ^ (n * i)
    new-moved {k} {y} ek ey =
        ap₂ (λ a b. a * 2 ^ (b * i) % 2 ^ 64) ey ek
        ∙ mod-eq_of_lt (only-lanes i (x % 2 ^ n) l (mod-lt x (pow_pos n))).below

    put-lanes : Lanes n (d - element n d i * 2 ^ (n * i) + x % 2 ^ n * 2 ^ (n * i)) (with_element i x n d)
    unfolding with_element
    put-lanes =
        let rest = minus-lanes share (own share d hd) (only-lanes i (element n d i) l (element-below n d i)) less in
        let new = only-lanes i (x % 2 ^ n) l (mod-lt x (pow_pos n)) in
        same-lanes share
        (sum-lanes share rest new
        (λ j k. by_equal j i
        (λ t e. rw (t, e) (omega (arith, mod-lt x (pow_pos n))))
        (λ t. rw t (omega (arith, element-below n d j)))))
        (λ j k. by_equal j i (λ t e. rw (t, e) (omega arith)) (λ t. rw t (omega arith)))

    -- as the code has it
    pub put-moved : {k e y : ℕ} → k ≡ n → e ≡ element n d i → y ≡ x % 2 ^ n
        → Lanes n (d - e * 2 ^ (k * i) % 2 ^ 64 + y * 2 ^ (k * i) % 2 ^ 64) (with_element i x n d)
    put-moved ek ee ey = rw (moved_back ek ee, new-moved ek ey) put-lanes

-- a register with one element anew is its words
module _ {n : ℕ} (share : Shares n) {d : Register} (hd : Words d) (i x : ℕ) where
  pub in-low : (j : ℕ) → j < 64 / n → with_element i x n d.low j ≡ with_element i x n (value d) j
  unfolding with_element
  in-low j l = ap (cond (eqb j i) (x % 2 ^ n)) (sym (value_low share hd j l))

  pub high-kept : i < 64 / n → (j : ℕ) → j < 64 / n → element n d.high j ≡ with_element i x n (value d) (64 / n + j)
  unfolding with_element
  high-kept h j l = rw (ne_eqb (64 / n + j) i (λ e. absurd (omega arith))) (sym (value-high share hd j))

  pub low-kept : 64 / n ≤ i → (j : ℕ) → j < 64 / n → element n d.low j ≡ with_element i x n (value d) j
  unfolding with_element
  low-kept h j l = rw (ne_eqb j i (λ e. absurd (omega arith))) (sym (value_low share hd j l))

  pub in-high : 64 / n ≤ i → (j : ℕ) → j < 64 / n
      → with_element (i - 64 / n) x n d.high j ≡ with_element i x n (value d) (64 / n + j)
  unfolding with_element
  in-high h j l = by_equal j (i - 64 / n)
      (λ t e. rw (t, eq-eqb (64 / n + j) i (omega arith)) refl)
      (λ t. let d = eqb-false j (i - 64 / n) t in
      rw (t, ne_eqb (64 / n + j) i (λ e. d (omega arith))) (sym (value-high share hd j)))

  pub all-kept : 128 / n ≤ i → value d ≡ whole n (with_element i x n (value d))
  unfolding with_element
  all-kept h =
      sym (whole-element share hd)
      ∙ build-same n (element n (value d)) (λ j. cond (eqb j i) (x % 2 ^ n) (element n (value d) j)) (128 / n)
      (λ j l. rw (ne_eqb j i (λ e. absurd (omega arith))) refl)
