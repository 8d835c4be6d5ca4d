-- The larger and the smaller of two elements, and the compares. `v` is the value that decides.
use Rattle.std.specs.Prelude.{ℕ, ◌-◌, ◌^◌, Bool, cond, ℤ, pos, int_lt}
use Rattle.element.specs.Value.{magnitude}

-- the Operation text of MAX and MIN: ws where it is beyond wt, and wt where the two are equal
unfoldable pub larger : (ℕ → ℤ) → ℕ → ℕ → ℕ
larger v s t = cond (int_lt (v t) (v s)) s t

unfoldable pub smaller : (ℕ → ℤ) → ℕ → ℕ → ℕ
smaller v s t = cond (int_lt (v s) (v t)) s t

-- the value that decides for MAX_A and MIN_A
abbrev pub absolute : ℕ → ℕ → ℤ
absolute n x = pos (magnitude n x)

-- what a compare gives: all ones for yes, 0 for no
unfoldable pub mask : ℕ → Bool → ℕ
mask n yes? = cond yes? (2 ^ n - 1) 0
