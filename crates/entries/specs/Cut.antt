-- The parts of an entry, cut from any number.
use Rattle.std.specs.Prelude.{ℕ, ◌/◌, ◌%◌, Bool, ◌==◌}
use Rattle.isa.specs.declared.Width.{Width}
use Rattle.isa.specs.Widths.{width_at}
use Rattle.element.specs.Value.{signed, wrap}

unfoldable pub code_of : ℕ → ℕ
code_of x = x % 256

unfoldable pub width_of : ℕ → Width
width_of x = width_at (x / 256 % 4)

unfoldable pub flag_of : ℕ → Bool
flag_of x = x / 1024 % 2 == 1

unfoldable pub dest_of : ℕ → ℕ
dest_of x = x / 2048 % 32

unfoldable pub source_of : ℕ → ℕ
source_of x = x / 65536 % 32

unfoldable pub third_of : ℕ → ℕ
third_of x = x / 2097152 % 32

unfoldable pub imm_of : ℕ → ℕ
imm_of x = x / 4294967296 % 4294967296

-- the immediate as a signed number, in 64 bits
abbrev pub extended_of : ℕ → ℕ
extended_of x = wrap 64 (signed 32 (imm_of x))
