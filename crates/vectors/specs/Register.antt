-- A vector register is a number below 2^128. Element i of n bits is its bits n * i to n * i + n - 1.
use Rattle.std.specs.Prelude.{ℕ, zero, suc, ◌+◌, ◌*◌, ◌/◌, ◌%◌, ◌^◌}

unfoldable pub element : ℕ → ℕ → ℕ → ℕ
element n v i = v / 2 ^ (n * i) % 2 ^ n

-- the number whose first m elements of n bits are f 0 to f (m - 1)
unfoldable pub build : ℕ → (ℕ → ℕ) → ℕ → ℕ
build n f zero = 0
build n f (suc m) = build n f m + f m * 2 ^ (n * m)

-- the register of 128 / n elements f 0, f 1, ..
abbrev pub whole : ℕ → (ℕ → ℕ) → ℕ
whole n f = build n f (128 / n)

-- the register whose elements g makes of the same-numbered elements of d, s and t
abbrev pub together : ℕ → (ℕ → ℕ → ℕ → ℕ) → ℕ → ℕ → ℕ → ℕ
together n g d s t = whole n (λ i. g (element n d i) (element n s i) (element n t i))

-- the register with x, modulo 2^n, for each of its elements
unfoldable pub filled : ℕ → ℕ → ℕ
filled n x = whole n (λ _. x % 2 ^ n)
