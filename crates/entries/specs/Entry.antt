-- The entry that the list keeps for a word: one number, with the code of what the word asks for, its format, and its
-- operands. A code stands for what an operation does, so the forms of one operation (ADDV and ADDVI, SLL and SLLI,
-- AND.V and ANDI.B) have one code, and the flag says that the last operand is an immediate. Immediates and offsets
-- are kept as the numbers that they stand for, modulo 2^32.
use Rattle.std.specs.Prelude.{ℕ, ◌+◌, ◌-◌, ◌*◌, ◌%◌, pos, ◌*ℤ◌, Ok, Err, Result}
use Rattle.isa.specs.declared.Absolute.TheVariants.{MaxA, MinA}
use Rattle.isa.specs.declared.Across.TheVariants.{HaddS, HaddU, HsubS, HsubU}
use Rattle.isa.specs.declared.Addition.TheVariants.{AddA, AddsA, AddsS, AddsU, AveS, AveU, AverS, AverU}
use Rattle.isa.specs.declared.Arith.{Arith}
use Rattle.isa.specs.declared.Arith.TheVariants as arith
use Rattle.isa.specs.declared.Basic.TheVariants.{Addv, Subv, MaxS, MaxU, MinS, MinU}
use Rattle.isa.specs.declared.BitOp.{BitOp}
use Rattle.isa.specs.declared.BitOp.TheVariants as bit
use Rattle.isa.specs.declared.Bitwise.TheVariants.{Sll, Sra, Srl, Bclr, Bset, Bneg, Binsl, Binsr}
use Rattle.isa.specs.declared.Compare.TheVariants.{Ceq, CltS, CltU, CleS, CleU}
use Rattle.isa.specs.declared.Copied.{Copied}
use Rattle.isa.specs.declared.Copied.TheVariants.{CopyS, CopyU}
use Rattle.isa.specs.declared.Count.{Count}
use Rattle.isa.specs.declared.Count.TheVariants.{Pcnt, Nloc, Nlzc}
use Rattle.isa.specs.declared.Dot.TheVariants.{DotpS, DotpU, DpaddS, DpaddU, DpsubS, DpsubU}
use Rattle.isa.specs.declared.Fixed.{Fixed}
use Rattle.isa.specs.declared.Fixed.TheVariants.{MulQ, MaddQ, MsubQ, MulrQ, MaddrQ, MsubrQ}
use Rattle.isa.specs.declared.Indexed.{Indexed}
use Rattle.isa.specs.declared.Indexed.TheVariants.{Sld, Splat}
use Rattle.isa.specs.declared.Instr.{Instr}
use Rattle.isa.specs.declared.Instr.TheVariants as instr
use Rattle.isa.specs.declared.Logic.{Logic}
use Rattle.isa.specs.declared.Logic.TheVariants.{And, Or, Nor, Xor, Bmnz, Bmz, Bsel}
use Rattle.isa.specs.declared.Memory.{Memory}
use Rattle.isa.specs.declared.Memory.TheVariants.{Ld, St}
use Rattle.isa.specs.declared.Product.TheVariants.{Mulv, Maddv, Msubv, DivS, DivU, ModS, ModU}
use Rattle.isa.specs.declared.Rounding.TheVariants.{Srar, Srlr}
use Rattle.isa.specs.declared.Saturate.TheVariants.{SatS, SatU}
use Rattle.isa.specs.declared.Scaled.{Scaled}
use Rattle.isa.specs.declared.Scaled.TheVariants.{Lsa, Dlsa}
use Rattle.isa.specs.declared.Subtraction.TheVariants.{SubsS, SubsU, SubsusU, SubsuuS, AsubS, AsubU}
use Rattle.isa.specs.declared.Unread.{Unread}
use Rattle.isa.specs.declared.Unread.TheVariants.{Unassigned, LeftOut, Other}
use Rattle.isa.specs.declared.Zero.{Zero}
use Rattle.isa.specs.declared.Zero.TheVariants.{Bz, Bnz}
use Rattle.isa.specs.Widths.{width_code, bytes}
use Rattle.element.specs.Value.{signed, wrap}
use Rattle.ops.specs.Meaning.{indexed_at, imm5_at, bit_at, logic_at, fixed_at, copied_at, count_at, memory_at, zero_at, scaled_at}

-- each part modulo its size, at its place: code, format, flag, the registers d, s and t, and the immediate
unfoldable pub packed : ℕ → ℕ → ℕ → ℕ → ℕ → ℕ → ℕ → ℕ
packed code df flag d s t imm =
    code % 256 + df % 4 * 256 + flag % 2 * 1024 + d % 32 * 2048 + s % 32 * 65536 + t % 32 * 2097152
    + imm % 4294967296 * 4294967296

-- ---- the codes: 0 to 7 what kernels do most beside arithmetic, then the bitwise forms, then 3R by its place in the
-- table of operations, then the others

abbrev pub memory_code : Memory → ℕ
memory_code Ld = 0
memory_code St = 1

abbrev pub scaled_code : Scaled → ℕ
scaled_code Lsa = 2
scaled_code Dlsa = 3

abbrev pub zero_code : Zero → ℕ
zero_code Bz = 4
zero_code Bnz = 5

abbrev pub logic_code : Logic → ℕ
logic_code And = 8
logic_code Or = 9
logic_code Nor = 10
logic_code Xor = 11
logic_code Bmnz = 12
logic_code Bmz = 13
logic_code Bsel = 14

-- 3R: places 104 to 175
abbrev pub three_code : ℕ → ℕ
three_code k = k - 88

-- the same operations in I5 and BIT
abbrev pub arith_code : Arith → ℕ
arith_code (arith.Basic Addv) = 24
arith_code (arith.Basic Subv) = 25
arith_code (arith.Basic MaxS) = 26
arith_code (arith.Basic MaxU) = 27
arith_code (arith.Basic MinS) = 28
arith_code (arith.Basic MinU) = 29
arith_code (arith.Absolute MaxA) = 30
arith_code (arith.Absolute MinA) = 31
arith_code (arith.Compare Ceq) = 32
arith_code (arith.Compare CltS) = 34
arith_code (arith.Compare CltU) = 35
arith_code (arith.Compare CleS) = 36
arith_code (arith.Compare CleU) = 37
arith_code (arith.Addition AddA) = 40
arith_code (arith.Addition AddsA) = 41
arith_code (arith.Addition AddsS) = 42
arith_code (arith.Addition AddsU) = 43
arith_code (arith.Addition AveS) = 44
arith_code (arith.Addition AveU) = 45
arith_code (arith.Addition AverS) = 46
arith_code (arith.Addition AverU) = 47
arith_code (arith.Subtraction SubsS) = 48
arith_code (arith.Subtraction SubsU) = 49
arith_code (arith.Subtraction SubsusU) = 50
arith_code (arith.Subtraction SubsuuS) = 51
arith_code (arith.Subtraction AsubS) = 52
arith_code (arith.Subtraction AsubU) = 53
arith_code (arith.Product Mulv) = 56
arith_code (arith.Product Maddv) = 57
arith_code (arith.Product Msubv) = 58
arith_code (arith.Product DivS) = 60
arith_code (arith.Product DivU) = 61
arith_code (arith.Product ModS) = 62
arith_code (arith.Product ModU) = 63
arith_code (arith.Dot DotpS) = 64
arith_code (arith.Dot DotpU) = 65
arith_code (arith.Dot DpaddS) = 66
arith_code (arith.Dot DpaddU) = 67
arith_code (arith.Dot DpsubS) = 68
arith_code (arith.Dot DpsubU) = 69
arith_code (arith.Across HaddS) = 84
arith_code (arith.Across HaddU) = 85
arith_code (arith.Across HsubS) = 86
arith_code (arith.Across HsubU) = 87

abbrev pub bit_code : BitOp → ℕ
bit_code (bit.Bitwise Sll) = 16
bit_code (bit.Bitwise Sra) = 17
bit_code (bit.Bitwise Srl) = 18
bit_code (bit.Bitwise Bclr) = 19
bit_code (bit.Bitwise Bset) = 20
bit_code (bit.Bitwise Bneg) = 21
bit_code (bit.Bitwise Binsl) = 22
bit_code (bit.Bitwise Binsr) = 23
bit_code (bit.Saturate SatS) = 90
bit_code (bit.Saturate SatU) = 91
bit_code (bit.Rounding Srar) = 81
bit_code (bit.Rounding Srlr) = 82

abbrev pub indexed_code : Indexed → ℕ
indexed_code Sld = 88
indexed_code Splat = 89

-- 92 FILL and LDI, 93 SHF, 94 INSERT and INSVE, 95 MOVE
abbrev pub count_code : Count → ℕ
count_code Pcnt = 96
count_code Nloc = 97
count_code Nlzc = 98

abbrev pub fixed_code : Fixed → ℕ
fixed_code MulQ = 99
fixed_code MaddQ = 100
fixed_code MsubQ = 101
fixed_code MulrQ = 102
fixed_code MaddrQ = 103
fixed_code MsubrQ = 104

abbrev pub copied_code : Copied → ℕ
copied_code CopyS = 105
copied_code CopyU = 106

-- 107 CFCMSA, 108 CTCMSA; and a word that reads as no instruction, with its reason
abbrev pub unread_code : Unread → ℕ
unread_code Unassigned = 109
unread_code LeftOut = 110
unread_code Other = 111

-- ---- the entry, a line a class

abbrev pub instr_entry : Instr → ℕ
instr_entry (instr.Three k df wd ws wt) =
    packed (three_code k.0) (width_code df) 0 wd.0 ws.0 wt.0 0
instr_entry (instr.Indexed k df wd ws rt) =
    packed (indexed_code (indexed_at k.0)) (width_code df) 0 wd.0 ws.0 rt.0 0
instr_entry (instr.Imm5U k df wd ws imm) =
    packed (arith_code (imm5_at k.0)) (width_code df) 1 wd.0 ws.0 0 imm
instr_entry (instr.Imm5S k df wd ws imm) =
    packed (arith_code (imm5_at k.0)) (width_code df) 1 wd.0 ws.0 0 (wrap 32 (signed 5 imm))
instr_entry (instr.Ldi df wd imm) = packed 92 (width_code df) 1 wd.0 0 0 (wrap 32 (signed 10 imm))
instr_entry (instr.Bit k df wd ws m) = packed (bit_code (bit_at k.0)) (width_code df) 1 wd.0 ws.0 0 m
instr_entry (instr.Imm8 k wd ws imm) = packed (logic_code (logic_at k.0)) 0 1 wd.0 ws.0 0 imm
instr_entry (instr.Shf df wd ws imm) = packed 93 (width_code df) 1 wd.0 ws.0 0 imm
instr_entry (instr.Element k df wd ws n) =
    packed (indexed_code (indexed_at k.0)) (width_code df) 1 wd.0 ws.0 0 n
instr_entry (instr.Insve df wd n ws) = packed 94 (width_code df) 1 wd.0 ws.0 0 n
instr_entry (instr.Copy k df rd ws n) = packed (copied_code (copied_at k.0)) (width_code df) 1 rd.0 ws.0 0 n
instr_entry (instr.Insert df wd n rs) = packed 94 (width_code df) 0 wd.0 rs.0 0 n
instr_entry (instr.Move wd ws) = packed 95 0 0 wd.0 ws.0 0 0
instr_entry (instr.Cfcmsa rd cs) = packed 107 0 0 rd.0 cs.0 0 0
instr_entry (instr.Ctcmsa cd rs) = packed 108 0 0 cd.0 rs.0 0 0
instr_entry (instr.Vec k wd ws wt) = packed (logic_code (logic_at k.0)) 0 0 wd.0 ws.0 wt.0 0
instr_entry (instr.Fill df wd rs) = packed 92 (width_code df) 0 wd.0 rs.0 0 0
instr_entry (instr.Count k df wd ws) = packed (count_code (count_at k.0)) (width_code df) 0 wd.0 ws.0 0 0
instr_entry (instr.Memory k df wd offset rs) =
    packed (memory_code (memory_at k.0)) (width_code df) 0 wd.0 rs.0 0
    (wrap 32 (signed 10 offset *ℤ pos (bytes df)))
instr_entry (instr.Branch k df wt offset) =
    packed (zero_code (zero_at k.0)) (width_code df) 0 0 0 wt.0 (wrap 32 (signed 16 offset *ℤ pos 4))
instr_entry (instr.BranchV k wt offset) =
    packed (2 + zero_code (zero_at k.0)) 0 0 0 0 wt.0 (wrap 32 (signed 16 offset *ℤ pos 4))
instr_entry (instr.Scaled k rd rs rt sa) = packed (scaled_code (scaled_at k.0)) 0 0 rd.0 rs.0 rt.0 sa
instr_entry (instr.Fixed k df wd ws wt) =
    packed (fixed_code (fixed_at k.0)) (width_code df) 0 wd.0 ws.0 wt.0 0

abbrev pub entry_of : Result Instr Unread → ℕ
entry_of (Err u) = packed (unread_code u) 0 0 0 0 0 0
entry_of (Ok i) = instr_entry i
