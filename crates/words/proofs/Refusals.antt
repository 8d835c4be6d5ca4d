-- An instruction that is formed has a word: with `write-formed`, refusal 6 is given exactly where the instruction is
-- not formed. Assumes nothing.
use mathlib.Core.Path.{◌≡◌, refl, sym, ◌∙◌}
use mathlib.Core.Bool.{true, cond}
use Prim.Native.Nat.{ℕ, ◌+◌, ◌/◌, ◌%◌, ◌<◌}
use native.Mathlib.Omega.{arith}
use borrow.Author.Tests.{lt-ltb}
use lib.Dec.{eqb, ltb}
use Rattle.isa.specs.declared.Width.{Width}
use Rattle.isa.specs.declared.Width.TheVariants.{B, H, W, D}
use Rattle.isa.specs.declared.Instr.{Instr}
use Rattle.isa.specs.declared.Instr.TheVariants as instr
use Rattle.isa.specs.Numbers.{number_in, written_said}
use Rattle.isa.specs.Widths as format
use Rattle.isa.specs.Widths.{width_code}
use Rattle.ops.specs.declared.Class.{Class}
use Rattle.ops.specs.declared.Class.TheVariants as class
use Rattle.ops.specs.Packed.{class_code}
use Rattle.ops.specs.Table.{table, row_at, class_at}
use Rattle.ops.proofs.Find.{rule}
use Rattle.fields.specs.Fields.{fits}
use Rattle.fields.proofs.Fields.{both_left}
use Rattle.reading.specs.Reading.{i8, minor, mi10}
use Rattle.writing.specs.Writing.{write_of, layout_of, bit_code, element_code}
use Rattle.words.specs.Theorems as theorems
use Rattle.words.proofs.Blocks.{inside, most, standing, stood}
use Rattle.words.proofs.Fixed.{fixed-bit}

-- the row of an operation that stands under a minor opcode
row : (c : Class) (k : ℕ) → class_at k ≡ c → standing c k ≡ inside minor k → ltb (k / 8) 64 ≡ true
row c k e s = let u = most minor k (sym s ∙ stood c k e) in lt-ltb (k / 8) 64 (omega arith)

-- I8 has four columns
half : (k : ℕ) → class_at k ≡ class.Imm8 → ltb (k % 8) 4 ≡ true
unfolding row_at
half k e = rw e at (rule (λ k r. cond (eqb (class_code r.class) 7) (ltb (k % 8) 4) true) (λ k. refl) table refl k)

column : (n : ℕ) → ltb (n % 8) 8 ≡ true
column n = lt-ltb (n % 8) 8 (omega arith)

column16 : (n : ℕ) → ltb (n % 16) 16 ≡ true
column16 n = lt-ltb (n % 16) 16 (omega arith)

reg : {n : ℕ} → n < 32 → ltb n 32 ≡ true
reg {n} h = lt-ltb n 32 h

width : (df : Width) → ltb (width_code df) 4 ≡ true
width = elim [ B ↦ refl | H ↦ refl | W ↦ refl | D ↦ refl ]

bit-field : (df : Width) (m : ℕ) → m < format.bits df → ltb (bit_code df m) 128 ≡ true
bit-field B m h = lt-ltb (112 + m) 128 (omega arith)
bit-field H m h = lt-ltb (96 + m) 128 (omega arith)
bit-field W m h = lt-ltb (64 + m) 128 (omega arith)
bit-field D m h = lt-ltb m 128 (omega arith)

element-field : (df : Width) (n : ℕ) → n < format.elements df → ltb (element_code df n) 64 ≡ true
element-field B n h = lt-ltb n 64 (omega arith)
element-field H n h = lt-ltb (32 + n) 64 (omega arith)
element-field W n h = lt-ltb (48 + n) 64 (omega arith)
element-field D n h = lt-ltb (56 + n) 64 (omega arith)

written : (i : Instr) → (layout_of i).ok ≡ true → fits (layout_of i).widths (layout_of i).values ≡ true
    → number_in (written_said (write_of i)) ≡ 0
unfolding write_of
written i ok f = rw (ok, f)

pub formed-writes : theorems.FormedWrites
formed-writes (instr.Three k df wd ws wt) p =
    written _ (rw (p.3, p.4))
    (rw (column k.0, width df, reg p.2, reg p.1, reg p.0, row class.Three k.0 p.3 refl))
formed-writes (instr.Indexed k df wd ws rt) p =
    written _ (rw (p.3, p.4))
    (rw (column k.0, width df, reg p.2, reg p.1, reg p.0, row class.Indexed k.0 p.3 refl))
formed-writes (instr.Imm5U k df wd ws imm) p =
    written _ (rw (p.3, p.4))
    (rw (column k.0, width df, reg p.2, reg p.1, reg p.0, row class.Imm5U k.0 p.3 refl))
formed-writes (instr.Imm5S k df wd ws imm) p =
    written _ (rw (p.3, p.4))
    (rw (column k.0, width df, reg p.2, reg p.1, reg p.0, row class.Imm5S k.0 p.3 refl))
formed-writes (instr.Ldi df wd imm) p = written _ p.2 (rw (width df, lt-ltb imm 1024 p.1, reg p.0))
formed-writes (instr.Bit k df wd ws m) p =
    written _ (rw (p.3, p.4, lt-ltb m (format.bits df) p.2))
    (rw (column k.0, bit-field df m p.2, reg p.1, reg p.0, row class.Bit k.0 p.3 refl))
formed-writes (instr.Imm8 k wd ws imm) p =
    let u = most i8 k.0 (stood class.Imm8 k.0 p.3) in
    written _ (rw p.3)
    (rw (half k.0 p.3, lt-ltb imm 256 p.2, reg p.1, reg p.0, lt-ltb (k.0 / 8) 64 (omega arith)))
formed-writes (instr.Shf df wd ws imm) p = written _ p.3 (rw (
  width df,
  lt-ltb imm 256 p.2,
  reg p.1,
  reg p.0,
))
formed-writes (instr.Element k df wd ws n) p =
    written _ (rw (p.3, p.4, lt-ltb n (format.elements df) p.2))
    (rw (column16 k.0, element-field df n p.2, reg p.1, reg p.0))
formed-writes (instr.Copy k df rd ws n) p =
    written _ (rw (p.3, p.4, lt-ltb n (format.elements df) p.2))
    (rw (column16 k.0, element-field df n p.2, reg p.1, reg p.0))
formed-writes (instr.Insve df wd n ws) p =
    written _ (rw (p.3, lt-ltb n (format.elements df) p.1)) (rw (element-field df n p.1, reg p.2, reg p.0))
formed-writes (instr.Insert df wd n rs) p =
    written _ (rw (p.3, lt-ltb n (format.elements df) p.1)) (rw (element-field df n p.1, reg p.2, reg p.0))
formed-writes (instr.Move wd ws) p = written _ refl (rw (reg p.1, reg p.0))
formed-writes (instr.Cfcmsa rd cs) p = written _ refl (rw (reg p.1, reg p.0))
formed-writes (instr.Ctcmsa cd rs) p = written _ refl (rw (reg p.1, reg p.0))
formed-writes (instr.Vec k wd ws wt) p =
    written _ (rw p.3) (rw (lt-ltb (k.0 % 32) 32 (omega arith), reg p.2, reg p.1, reg p.0))
formed-writes (instr.Fill df wd rs) p = written _ p.2 (rw (width df, reg p.1, reg p.0))
formed-writes (instr.Count k df wd ws) p =
    written _ (rw (p.2, p.3)) (rw (column k.0, width df, reg p.1, reg p.0))
formed-writes (instr.Memory k df wd offset rs) p =
    let u = most mi10 k.0 (both_left (inside mi10 k.0) _ (stood class.Memory k.0 p.3)) in
    written _ (rw (p.3, p.4))
    (rw (lt-ltb offset 1024 p.1, reg p.2, reg p.0, lt-ltb (k.0 / 32) 16 (omega arith), width df))
formed-writes (instr.Branch k df wt offset) p =
    written _ (rw (p.2, p.3)) (rw (column k.0, width df, reg p.0, lt-ltb offset 65536 p.1))
formed-writes (instr.BranchV k wt offset) p =
    written _ (rw p.2) (rw (column k.0, reg p.0, lt-ltb offset 65536 p.1))
formed-writes (instr.Scaled k rd rs rt sa) p =
    written _ (rw p.4)
    (rw (reg p.1, reg p.2, reg p.0, lt-ltb sa 4 p.3, lt-ltb (k.0 % 64) 64 (omega arith)))
formed-writes (instr.Fixed k df wd ws wt) p =
    written _ (rw (p.3, p.4))
    (rw (column16 k.0, fixed-bit k.0 df p.3 p.4, reg p.2, reg p.1, reg p.0))
