-- The bytes of a word that has been rearranged: how a register is turned, a word at a time.
use Rattle.std.specs.Prelude.{◌≡◌, Bool, cond, ℕ, ◌+◌, ◌-◌, ◌/◌, ◌%◌, ◌^◌, ◌<◌, eqb}
use Rattle.vectors.specs.Register.{element}

-- byte b is in the lower of two neighbouring groups of n
abbrev pub lower : ℕ → ℕ → Bool
lower n b = eqb (b / n % 2) 0

-- the byte in the place of b in the neighbouring group
abbrev pub neighbour : ℕ → ℕ → ℕ
neighbour n b = cond (lower n b) (n + b) (b - n)

-- the word m has ones in the lower group of each two, and zeros in the other
pub record Lower (n m : ℕ) : Type 0 where
  pub at : (b : ℕ) → b < 8 → element 8 m b ≡ cond (lower n b) 255 0

-- byte b of the word y is byte f b of x
pub record Moved (x : ℕ) (f : ℕ → ℕ) (y : ℕ) : Type 0 where
  pub below : y < 2 ^ 64
  pub at : (b : ℕ) → b < 8 → element 8 y b ≡ element 8 x (f b)

-- the bytes of an element
pub data Size : ℕ → Type 0 where
  one : Size 1
  two : Size 2
  four : Size 4
  eight : Size 8
