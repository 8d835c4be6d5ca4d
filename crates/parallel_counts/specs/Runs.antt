-- Runs of ones from the highest one of an element down.
use Rattle.std.specs.Prelude.{ℕ, ◌+◌, ◌-◌, ◌/◌, ◌^◌, ◌≤◌, ◌<◌}
use Rattle.std.specs.Int.Count.{count_leading_zeros}
use Rattle.vectors.specs.Register.{element}

-- y has m bits, and the highest k of them, or all where k is more, are ones
pub record Run (m k y : ℕ) : Type 0 where
  pub below : y < 2 ^ m
  pub high : 2 ^ m ≤ y + 2 ^ (m - k)

-- so has every element of r, with the m of the same element of s
abbrev pub Runs : ℕ → ℕ → ℕ → ℕ → Type 0
Runs n k r s = (i : ℕ) → i < 64 / n → Run (n - count_leading_zeros n (element n s i)) k (element n r i)
