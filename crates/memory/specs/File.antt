-- The file of vector registers: byte b of register r stands at 16r + b, byte 0 the least significant.
use Rattle.std.specs.Prelude.{ℕ, ◌*◌, List}
use Rattle.isa.specs.declared.Vreg.{Vreg}
use Rattle.memory.specs.Bytes.{part, replaced, number, bytes_of}

unfoldable pub register_at : List ℕ → Vreg → ℕ
register_at file r = number (part file (16 * r.0) 16)

-- the file with x for register r
unfoldable pub with_register : List ℕ → Vreg → ℕ → List ℕ
with_register file r x = replaced file (16 * r.0) (bytes_of 16 x)
