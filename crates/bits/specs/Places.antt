-- Single bits, fields, counts and narrower ranges of an n-bit element.
use Rattle.std.specs.Prelude.{ℕ, ◌+◌, ◌-◌, ◌*◌, ◌/◌, ◌%◌, ◌^◌, ◌<◌, ◌≡◌}
use Rattle.std.specs.Int.Count.{count_leading_zeros}
use Rattle.element.specs.declared.Reading.{Reading}
use Rattle.element.specs.Value.{value, wrap, held}

-- bit k of x, and x with b for its bit k
unfoldable pub bit_at : ℕ → ℕ → ℕ
bit_at x k = x / 2 ^ k % 2

unfoldable pub with_bit : ℕ → ℕ → ℕ → ℕ
with_bit x k b = x - bit_at x k * 2 ^ k + b * 2 ^ k

-- the bits of s from place p on, over the bits of d below it
unfoldable pub over : ℕ → ℕ → ℕ → ℕ
over d s p = s / 2 ^ p * 2 ^ p + d % 2 ^ p

-- BINSL and BINSR: the top, or the low, k + 1 bits of s into d
unfoldable pub binsl : ℕ → ℕ → ℕ → ℕ → ℕ
binsl n d s k = over d s (n - 1 - k)

unfoldable pub binsr : ℕ → ℕ → ℕ → ℕ → ℕ
binsr n d s k = over s d (k + 1)

-- the ones above the highest zero are the zeros above the highest one of the other bits
unfoldable pub nloc : ℕ → ℕ → ℕ
nloc n s = count_leading_zeros n (2 ^ n - 1 - s)

-- SAT: s held to the range of m + 1 bits
unfoldable pub sat_to : Reading → ℕ → ℕ → ℕ → ℕ
sat_to g n s m = wrap n (held g (m + 1) (value g n s))

-- r is the amount that t asks n bits to be shifted by
pub record Amount (n t r : ℕ) : Type 0 where
  pub is : r ≡ t % n
  pub below : r < n
  pub fits : r < 64
