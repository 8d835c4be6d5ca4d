-- Zero elements: of a word, by a word of marks in their places; of a register, by its words. And a register that is
-- zero.
-- Assumes nothing.
use mathlib.Core.Path.{◌≡◌, refl, sym, ap, ap₂, ◌∙◌}
use mathlib.Core.Bool.{Bool, true, false, not, ◌&&◌, ◌||◌, or_assoc}
use Prim.Native.Nat.{ℕ, zero, suc, ◌+◌, ◌*◌, ◌/◌, ◌^◌, ◌<◌}
use native.Mathlib.Omega.{arith}
use borrow.Author.Tests.{eq-eqb, ne_eqb}
use lib.Dec.{eqb, eqb-suc-zero}
use lib.Pow.{pow_pos}
use Rattle.memory.specs.declared.Register.{Register}
use Rattle.memory.specs.Value.{value}
use Rattle.memory.proofs.Values.{Words}
use Rattle.vectors.specs.Register.{element, build}
use Rattle.vectors.proofs.Sizes.{Shares}
use Rattle.vectors.proofs.Wholes.{value_low, value-high}
use Rattle.plan.specs.Zero.{some_zero}

-- a number in two parts is zero where both are
pub both_zero : (a b p : ℕ) → 0 < p → (eqb a 0 && eqb b 0) ≡ eqb (a + b * p) 0
both_zero zero zero p h = sym (eq-eqb (0 + 0 * p) 0 (omega arith))
both_zero zero (suc b) p h = rw (eqb-suc-zero b) (sym (ne_eqb (0 + suc b * p) 0 (omega arith)))
both_zero (suc a) b p h = rw (eqb-suc-zero a) (sym (ne_eqb (suc a + b * p) 0 (omega arith)))

-- a mark, f i other than 0, for each element that is zero
pub some-mark : (n v : ℕ) (f : ℕ → ℕ) (m : ℕ) → ((i : ℕ) → i < m → eqb (f i) 0 ≡ not (eqb (element n v i) 0))
    → not (eqb (build n f m) 0) ≡ some_zero n v m
unfolding some_zero build
some-mark n v f zero h = refl
some-mark n v f (suc m) h =
    ap not (sym (both_zero (build n f m) (f m) (2 ^ (n * m)) (pow_pos (n * m))))
    ∙ marked (eqb (build n f m) 0) (eqb (element n v m) 0) (h m (omega arith))
    ∙ ap (λ s. eqb (element n v m) 0 || s) (some-mark n v f m (λ i l. h i (omega arith)))
  where
    marked : (b e : Bool) {x : Bool} → x ≡ not e → not (b && x) ≡ (e || not b)
    marked true true q = ap not q
    marked true false q = ap not q
    marked false true q = refl
    marked false false q = refl

same-zero : (n v u m : ℕ) → ((i : ℕ) → i < m → element n v i ≡ element n u i) → some_zero n v m ≡ some_zero n u m
unfolding some_zero
same-zero n v u zero h = refl
same-zero n v u (suc m) h =
    ap₂ (λ x s. eqb x 0 || s) (h m (omega arith)) (same-zero n v u m (λ i l. h i (omega arith)))

module _ {n : ℕ} (share : Shares n) {v : Register} (words : Words v) where
  -- the low word, and k elements of the high one
  parts : (k : ℕ) → some_zero n (value v) (64 / n + k) ≡ (some_zero n v.high k || some_zero n v.low (64 / n))
  unfolding some_zero
  parts zero =
      let e : 64 / n + 0 ≡ 64 / n = omega arith in
      rw e (same-zero n (value v) v.low (64 / n) (value_low share words))
  parts (suc k) =
      let e : 64 / n + suc k ≡ suc (64 / n + k) = omega arith in
      rw e (ap₂ (λ x s. eqb x 0 || s) (value-high share words k) (parts k)
      ∙ sym (or_assoc (eqb (element n v.high k) 0) (some_zero n v.high k) (some_zero n v.low (64 / n))))

  pub zero-words : (some_zero n v.high (64 / n) || some_zero n v.low (64 / n)) ≡ some_zero n (value v) (128 / n)
  zero-words = rw share.double (sym (parts (64 / n)))
