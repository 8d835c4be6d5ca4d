-- Request 2/12 a second time: how far a result may be from the exact number, at any width, and when it is clamped.
use Rattle.std.specs.Prelude.{◌≡◌, ℕ, ◌-◌, ◌^◌, ◌≤◌, ◌<◌, ℤ, pos, neg_ℤ, ◌+ℤ◌, ◌-ℤ◌, ◌*ℤ◌, ◌≤ℤ◌, ◌<ℤ◌}
use Rattle.isa.specs.declared.Fixed.{Fixed}
use Rattle.isa.specs.declared.Fixed.TheVariants.{MulQ, MaddQ, MsubQ, MulrQ, MaddrQ, MsubrQ}
use Rattle.element.specs.Value.{signed}
use Rattle.fixed.specs.Fixed.{fixed_of}

-- an element of 2^(n − 1) would stand for 1
abbrev pub one : ℕ → ℤ
one n = pos (2 ^ (n - 1))

-- the exact numbers, at the scale of a product, 2^(n − 1) times that of elements; u is the number of 1, and d, s and t
-- are the signed numbers of the elements
abbrev pub exact : Fixed → ℤ → ℤ → ℤ → ℤ → ℤ
exact MulQ u d s t = s *ℤ t
exact MaddQ u d s t = d *ℤ u +ℤ s *ℤ t
exact MsubQ u d s t = d *ℤ u -ℤ s *ℤ t
exact MulrQ u d s t = s *ℤ t
exact MaddrQ u d s t = d *ℤ u +ℤ s *ℤ t
exact MsubrQ u d s t = d *ℤ u -ℤ s *ℤ t

-- what rounding adds: half of 2^(n − 1), the step of an element at that scale
abbrev pub added : Fixed → ℕ → ℤ
added MulQ n = pos 0
added MaddQ n = pos 0
added MsubQ n = pos 0
added MulrQ n = pos (2 ^ (n - 2))
added MaddrQ n = pos (2 ^ (n - 2))
added MsubrQ n = pos (2 ^ (n - 2))

abbrev pub uncut : Fixed → ℕ → ℕ → ℕ → ℕ → ℤ
uncut o n d s t = exact o (one n) (signed n d) (signed n s) (signed n t) +ℤ added o n

-- z, at that scale, is 1 or more, or less than −1
pub data Clamped (n : ℕ) (z : ℤ) : Type 0 where
  over : (one n *ℤ one n) ≤ℤ z → Clamped n z
  under : z <ℤ (neg_ℤ (one n *ℤ one n)) → Clamped n z

-- r is the element for z cut by the floor, and the largest or the lowest one where it is clamped
pub record Stands (n : ℕ) (z : ℤ) (r : ℕ) : Type 0 where
  pub small : r < 2 ^ n
  pub least : (Clamped n z → ⊥) → (signed n r *ℤ one n) ≤ℤ z
  pub most : (Clamped n z → ⊥) → z <ℤ (signed n r *ℤ one n +ℤ one n)
  pub largest : (one n *ℤ one n) ≤ℤ z → r ≡ 2 ^ (n - 1) - 1
  pub lowest : z <ℤ (neg_ℤ (one n *ℤ one n)) → r ≡ 2 ^ (n - 1)

abbrev pub AllStand : Type 0
AllStand =
    (o : Fixed) (n : ℕ) → 0 < n → n ≤ 64 → (d s t : ℕ) → Stands n (uncut o n d s t) (fixed_of o n d s t)

-- ---- the two without an old element

pub data Alone : Type 0 where
  mul-q mulr-q : Alone

abbrev pub fixed_in : Alone → Fixed
fixed_in mul-q = MulQ
fixed_in mulr-q = MulrQ

-- both elements stand for −1
pub record Lowest (n s t : ℕ) : Type 0 where
  pub first : s ≡ 2 ^ (n - 1)
  pub second : t ≡ 2 ^ (n - 1)

-- x, the result times 2^(n − 1), beside the product p: at most p and less than 2^(n − 1) below it; or within 2^(n − 2)
-- of it
abbrev pub Near : Alone → ℕ → ℤ → ℤ → Type 0
Near mul-q n x p = (x ≤ℤ p) × ((p -ℤ x) <ℤ one n)
Near mulr-q n x p = ((x -ℤ p) ≤ℤ pos (2 ^ (n - 2))) × ((p -ℤ x) ≤ℤ pos (2 ^ (n - 2)))

-- r is the product of s and t: clamped exactly where both are the lowest, to the largest, and near the product
-- elsewhere
pub record Multiplied (o : Alone) (n s t r : ℕ) : Type 0 where
  pub clamped : Clamped n (uncut (fixed_in o) n 0 s t) → Lowest n s t
  pub always : Lowest n s t → Clamped n (uncut (fixed_in o) n 0 s t)
  pub largest : Lowest n s t → r ≡ 2 ^ (n - 1) - 1
  pub near : (Clamped n (uncut (fixed_in o) n 0 s t) → ⊥) → Near o n (signed n r *ℤ one n) (signed n s *ℤ signed n t)

abbrev pub Multiplies : Type 0
Multiplies =
    (o : Alone) (n : ℕ) → 1 < n → n ≤ 64 → (d s t : ℕ) → s < 2 ^ n → t < 2 ^ n
    → Multiplied o n s t (fixed_of (fixed_in o) n d s t)
