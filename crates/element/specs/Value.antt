-- What an n-bit element stands for, and the element that stands for a whole number.
use Rattle.std.specs.Prelude.{cond, ℕ, ◌-◌, ◌%◌, ◌^◌, ltb, ℤ, pos, negsuc, neg_ℤ, nat_abs, ◌-ℤ◌}
use Rattle.std.specs.Int.Signed.{lt_z}
use Rattle.element.specs.declared.Reading.{Reading}
use Rattle.element.specs.declared.Reading.TheVariants.{Unsigned, Signed}

-- the weight of an element's top bit
abbrev pub top : ℕ → ℕ
top n = 2 ^ (n - 1)

-- the value of x as a signed number: x, or x - 2^n where its top bit is set
unfoldable pub signed : ℕ → ℕ → ℤ
signed n x = cond (ltb x (top n)) (pos x) (pos x -ℤ pos (2 ^ n))

-- the value of x in a reading, and its absolute value as a signed number
abbrev pub value : Reading → ℕ → ℕ → ℤ
value Unsigned n x = pos x
value Signed n x = signed n x

unfoldable pub magnitude : ℕ → ℕ → ℕ
magnitude n x = nat_abs (signed n x)

-- z modulo 2^n: -(a + 1) has the bits of a, each the other way round
unfoldable pub wrap : ℕ → ℤ → ℕ
wrap n (pos a) = a % 2 ^ n
wrap n (negsuc a) = 2 ^ n - 1 - a % 2 ^ n

-- the number from lo to hi that is nearest to z
unfoldable pub clamp : ℤ → ℤ → ℤ → ℤ
clamp lo hi z = cond (lt_z z lo) lo (cond (lt_z hi z) hi z)

-- the range of n bits in a reading, and the number in it that is nearest to z
abbrev pub lowest : Reading → ℕ → ℤ
lowest Unsigned n = pos 0
lowest Signed n = neg_ℤ (pos (top n))

abbrev pub highest : Reading → ℕ → ℤ
highest Unsigned n = pos (2 ^ n - 1)
highest Signed n = pos (top n - 1)

abbrev pub held : Reading → ℕ → ℤ → ℤ
held g n z = clamp (lowest g n) (highest g n) z

-- the element for z held to the range of n bits
unfoldable pub sat : Reading → ℕ → ℤ → ℕ
sat g n z = wrap n (held g n z)
