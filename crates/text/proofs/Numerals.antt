-- A numeral by its last digit, and how long it is. Assumes nothing.
use mathlib.Core.Path.{◌≡◌, refl}
use mathlib.Core.Bool.{Bool, true, false}
use mathlib.Core.List.{List, [], ◌∷◌, ◌++◌}
use Prim.Native.Nat.{ℕ, zero, suc, ◌-◌, ◌/◌, ◌%◌, ◌≤◌}
use native.Mathlib.Numerals.{sub-one}
use native.Mathlib.Omega.{arith}
use lib.Dec.{ltb}
use lib.ListN.{length, length-append}
use Rattle.fields.specs.Fields.{pick, both}
use Rattle.text.specs.Numerals.{digit, numeral, decimal, hex}

module _ (base : ℕ) (short : Bool) where
  pub none : (most n : ℕ) → most ≡ 0 → [] ≡ numeral base short most n
  none most n e = rw e

  pub last : (most n : ℕ) → (most ≡ 0 → ⊥) → both short (ltb n base) ≡ true
      → digit (n % base) ∷ [] ≡ numeral base short most n
  last zero n h e = absurd (h refl)
  last (suc k) n h e = rw e

  pub more : (most n : ℕ) → (most ≡ 0 → ⊥) → both short (ltb n base) ≡ false
      → numeral base short (most - 1) (n / base) ++ digit (n % base) ∷ [] ≡ numeral base short most n
  more zero n h e = absurd (h refl)
  more (suc k) n h e = rw (e, sub-one)

-- no longer than asked for
one_more : (b : Bool) (s : List ℕ) (d : ℕ) {k : ℕ} → length s ≤ k → length (pick b [] s ++ d ∷ []) ≤ suc k
one_more true s d h = omega arith
one_more false s d h = omega (arith, length-append s (d ∷ []))

pub at_most : (base : ℕ) (short : Bool) (most n : ℕ) → length (numeral base short most n) ≤ most
at_most base short zero n = omega arith
at_most base short (suc k) n = one_more (both short (ltb n base)) (numeral base short k (n / base)) _ (at_most base short k (n / base))

-- exactly as long as asked for
pub all_digits : (base most n : ℕ) → length (numeral base false most n) ≡ most
all_digits base zero n = refl
all_digits base (suc k) n = omega (arith, length-append (numeral base false k (n / base)) (digit (n % base) ∷ []), all_digits base k (n / base))

pub decimal-length : (n : ℕ) → length (decimal n) ≤ 5
unfolding decimal
decimal-length n = at_most 10 true 5 n

pub hex-length : (n : ℕ) → length (hex n) ≡ 8
unfolding hex
hex-length n = all_digits 16 8 n
