-- Sums and differences of two n-bit elements, as whole numbers: s and t are the elements of ws and wt, or t the immediate.
use Rattle.std.specs.Prelude.{ℕ, ◌+◌, ◌-◌, ◌%◌, ◌^◌, min, pos, ◌+ℤ◌, ◌-ℤ◌, unsigned_abs}
use Rattle.std.specs.Int.Signed.{shr_z}
use Rattle.element.specs.declared.Reading.{Reading}
use Rattle.element.specs.declared.Reading.TheVariants.{Unsigned, Signed}
use Rattle.element.specs.Value.{top, signed, value, magnitude, wrap, sat}

-- ADDV, SUBV and ADD_A wrap at the element's width
unfoldable pub addv : ℕ → ℕ → ℕ → ℕ
addv n s t = (s + t) % 2 ^ n

unfoldable pub subv : ℕ → ℕ → ℕ → ℕ
subv n s t = wrap n (pos s -ℤ pos t)

unfoldable pub add_a : ℕ → ℕ → ℕ → ℕ
add_a n s t = (magnitude n s + magnitude n t) % 2 ^ n

-- document 01: the largest signed value also for two lowest operands
unfoldable pub adds_a : ℕ → ℕ → ℕ → ℕ
adds_a n s t = min (magnitude n s + magnitude n t) (top n - 1)

-- the exact sum and difference, clamped to the range of the reading: ADDS_S, ADDS_U, SUBS_S, SUBS_U
unfoldable pub adds : Reading → ℕ → ℕ → ℕ → ℕ
adds g n s t = sat g n (value g n s +ℤ value g n t)

unfoldable pub subs : Reading → ℕ → ℕ → ℕ → ℕ
subs g n s t = sat g n (value g n s -ℤ value g n t)

-- ws unsigned, wt signed, the result unsigned
unfoldable pub subsus_u : ℕ → ℕ → ℕ → ℕ
subsus_u n s t = sat Unsigned n (pos s -ℤ signed n t)

-- both unsigned, the result signed
unfoldable pub subsuu_s : ℕ → ℕ → ℕ → ℕ
subsuu_s n s t = sat Signed n (pos s -ℤ pos t)

-- ASUB_S, ASUB_U: the distance, as an unsigned number
unfoldable pub asub : Reading → ℕ → ℕ → ℕ → ℕ
asub g n s t = unsigned_abs (value g n s -ℤ value g n t)

-- the floor of half the exact sum, plus more first: 0 for AVE, 1 for AVER. `shr_z z 2` is the floor of z / 2
unfoldable pub average : Reading → ℕ → ℕ → ℕ → ℕ → ℕ
average g n more s t = wrap n (shr_z (value g n s +ℤ value g n t +ℤ pos more) 2)
