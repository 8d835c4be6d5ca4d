-- A word by its elements: x has 64 / n elements of n bits, and element i of it is f i.
use Rattle.std.specs.Prelude.{◌≡◌, Bool, ℕ, ◌/◌, ◌^◌, ◌<◌, ltb}
use Rattle.element.specs.Value.{top}
use Rattle.vectors.specs.Register.{element}

pub record Lanes (n x : ℕ) (f : ℕ → ℕ) : Type 0 where
  pub below : x < 2 ^ 64
  pub at : (i : ℕ) → i < 64 / n → element n x i ≡ f i

-- every element of r is what op makes of the elements in the same place of one, two or three words
abbrev pub Each1 : ℕ → ℕ → (ℕ → ℕ) → ℕ → Type 0
Each1 n r op s = Lanes n r (λ i. op (element n s i))

abbrev pub Each2 : ℕ → ℕ → (ℕ → ℕ → ℕ) → ℕ → ℕ → Type 0
Each2 n r op s t = Lanes n r (λ i. op (element n s i) (element n t i))

abbrev pub Each3 : ℕ → ℕ → (ℕ → ℕ → ℕ → ℕ) → ℕ → ℕ → ℕ → Type 0
Each3 n r op d s t = Lanes n r (λ i. op (element n d i) (element n s i) (element n t i))

-- the answers of a test on every element: the top bit of element i is clear for yes
pub record Tests (n x : ℕ) (p : ℕ → Bool) : Type 0 where
  pub answer : (i : ℕ) → i < 64 / n → ltb (element n x i) (top n) ≡ p i
