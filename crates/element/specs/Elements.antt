-- What the operations ask of their arguments, and what a view of an element gives.
use Rattle.std.specs.Prelude.{◌≡◌, ℕ, ◌^◌, ◌<◌}

-- both are elements of n bits
pub record Elements (n s t : ℕ) : Type 0 where
  pub first : s < 2 ^ n
  pub second : t < 2 ^ n

-- r is the element x of n bits
pub record Element (n r x : ℕ) : Type 0 where
  pub is : r ≡ x
  pub below : r < 2 ^ n
