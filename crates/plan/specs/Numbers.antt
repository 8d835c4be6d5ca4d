-- The numbers that a step works out beside the vector operations: addresses, targets, shifted sums, control values.
use Rattle.std.specs.Prelude.{ℕ, ◌+◌, ◌*◌, ◌%◌, ◌^◌, cond, eqb, pos, ◌+ℤ◌, ◌*ℤ◌}
use Rattle.isa.specs.declared.Copied.{Copied}
use Rattle.isa.specs.declared.Copied.TheVariants.{CopyS, CopyU}
use Rattle.isa.specs.declared.Scaled.{Scaled}
use Rattle.isa.specs.declared.Scaled.TheVariants.{Lsa, Dlsa}
use Rattle.isa.specs.declared.Width.{Width}
use Rattle.isa.specs.Widths.{bits, bytes}
use Rattle.element.specs.Value.{signed, wrap}
use Rattle.vectors.specs.Register.{element}

-- LD and ST: the base register plus the signed ten-bit field times the element's bytes
unfoldable pub address : Width → ℕ → ℕ → ℕ
address df offset x = wrap 64 (pos x +ℤ signed 10 offset *ℤ pos (bytes df))

-- branches: the slot's address plus four times the signed offset
unfoldable pub target : ℕ → ℕ → ℕ
target pc offset = wrap 64 (pos (pc + 4) +ℤ signed 16 offset *ℤ pos 4)

-- LSA works on the low 32 bits and sign-extends; the shift is the field plus one
unfoldable pub lsa : ℕ → ℕ → ℕ → ℕ
lsa x y sa = wrap 64 (signed 32 ((x % 2 ^ 32 * 2 ^ (sa + 1) + y % 2 ^ 32) % 2 ^ 32))

unfoldable pub dlsa : ℕ → ℕ → ℕ → ℕ
dlsa x y sa = (x * 2 ^ (sa + 1) + y) % 2 ^ 64

abbrev pub scaled_of : Scaled → ℕ → ℕ → ℕ → ℕ
scaled_of Lsa x y sa = lsa x y sa
scaled_of Dlsa x y sa = dlsa x y sa

-- COPY_S extends the element's sign to the general register's 64 bits
abbrev pub copy_of : Copied → Width → ℕ → ℕ → ℕ
copy_of CopyS df s n = wrap 64 (signed (bits df) (element (bits df) s n))
copy_of CopyU df s n = element (bits df) s n

-- control register 1 is MSACSR; every other reads as 0
abbrev pub control_read : ℕ → ℕ → ℕ
control_read cs csr = cond (eqb cs 1) csr 0
