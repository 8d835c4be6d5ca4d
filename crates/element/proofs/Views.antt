-- The two views of an n-bit element that turn the definitions in ℤ into sums of natural numbers.
-- Order: as a signed number x is flip x - 2^(n - 1), and flip keeps the order. Ring: an element stands for its class modulo 2^n.
-- Assumes nothing.
use mathlib.Core.Path.{◌≡◌, refl, sym, ap, ◌∙◌}
use mathlib.Core.Bool.{Bool, true, false, cond}
use Prim.Native.Nat.{ℕ, zero, suc, ◌+◌, ◌-◌, ◌*◌, ◌%◌, ◌^◌, ◌≤◌, ◌<◌}
use native.Mathlib.Omega.{arith}
use native.Mathlib.Nat.{mod-lt, mod-eq_of_lt, add-mul-mod_self_right}
use borrow.Author.Tests.{lt-ltb, le-ltb, ltb-false}
use lib.Dec.{ltb}
use lib.Pow.{pow_pos}
use lib.IntN.{ℤ, pos, negsuc, ◌-ℤ◌}
use Rattle.element.specs.Value.{top, signed, wrap, magnitude}
use Rattle.element.specs.Views.{flip}
use Rattle.element.proofs.Widths.{Size}
use Rattle.element.proofs.Diff.{Diff, by-test, by_order, diff-pos, diff-minus, diff-to, diff-abs}

-- the remainder of x, from a number below m that differs from x by a multiple of m
pub mod-is : (x m r p q : ℕ) → r < m → r + q * m ≡ x + p * m → x % m ≡ r
mod-is x m r p q h e = sym (add-mul-mod_self_right x p m) ∙ ap (λ y. y % m) (sym e) ∙ add-mul-mod_self_right r q m ∙ mod-eq_of_lt h

-- the element for z, from a number below 2^n that differs from z by a multiple of 2^n
pub wrap-is : (n : ℕ) {z : ℤ} {a b : ℕ} → Diff z a b → (r p q : ℕ) → r < 2 ^ n → r + b + q * 2 ^ n ≡ a + p * 2 ^ n → wrap n z ≡ r
unfolding wrap
wrap-is n {z = pos k} d r p q h e = mod-is k (2 ^ n) r p q h (omega arith)
wrap-is n {z = negsuc k} d r zero q h e = absurd (omega arith)
wrap-is n {z = negsuc k} d r (suc p) q h e = omega (arith, mod-is k (2 ^ n) (2 ^ n - 1 - r) q p (omega arith) (omega arith))

pub wrap-below : (n : ℕ) (z : ℤ) → wrap n z < 2 ^ n
unfolding wrap
wrap-below n (pos a) = mod-lt a (pow_pos n)
wrap-below n (negsuc a) = omega (arith, pow_pos n)

pub flip_up : (n x : ℕ) → x < top n → flip n x ≡ x + top n
unfolding flip
flip_up n x h = rw (lt-ltb x (top n) h)

pub flip_down : (n x : ℕ) → top n ≤ x → flip n x ≡ x - top n
unfolding flip
flip_down n x h = rw (le-ltb x (top n) h)

module _ (n : ℕ) (size : Size n) where
  pub flip-below : {x : ℕ} → x < 2 ^ n → flip n x < 2 ^ n
  unfolding flip
  flip-below {x} h = by-test (λ y. y < 2 ^ n) x (top n) (λ l. omega arith) (λ l. omega arith)

  -- the order view: x stands for flip x - 2^(n - 1)
  pub signed-diff : {x : ℕ} → x < 2 ^ n → Diff (signed n x) (flip n x) (top n)
  unfolding flip signed
  signed-diff {x} h = go (ltb x (top n)) refl
    where
      go : (t : Bool) → ltb x (top n) ≡ t → Diff (cond t (pos x) (pos x -ℤ pos (2 ^ n))) (cond t (x + top n) (x - top n)) (top n)
      go true e = omega arith
      go false e = diff-to (diff-minus (diff-pos x) (diff-pos (2 ^ n))) (omega (arith, ltb-false x (top n) e))

  -- and back: the element for u - 2^(n - 1)
  pub wrap-flip : {z : ℤ} {a b : ℕ} (u : ℕ) → Diff z a b → a + top n ≡ u + b → u < 2 ^ n → wrap n z ≡ flip n u
  unfolding flip
  wrap-flip {z} u d e h = by-test (λ y. wrap n z ≡ y) u (top n)
      (λ l. wrap-is n d (u + top n) 1 0 (omega arith) (omega arith))
      (λ l. wrap-is n d (u - top n) 0 0 (omega arith) (omega arith))

  pub magnitude-low : {x : ℕ} → x < top n → magnitude n x ≡ x
  unfolding magnitude
  magnitude-low {x} h = diff-abs (signed-diff (omega arith)) ∙ omega (arith, flip_up n x h)

  pub magnitude-high : {x : ℕ} → top n ≤ x → x < 2 ^ n → magnitude n x ≡ 2 ^ n - x
  unfolding magnitude
  magnitude-high {x} h l = diff-abs (signed-diff l) ∙ omega (arith, flip_down n x h)

  pub magnitude-some : {x : ℕ} → x < 2 ^ n → (x ≡ 0 → ⊥) → 0 < magnitude n x
  magnitude-some {x} h some = by_order x (top n) (λ l. omega (arith, magnitude-low l)) (λ l. omega (arith, magnitude-high l h))
