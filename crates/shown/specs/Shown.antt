-- What the listing shows of an instruction, one line for each class: the place of its operation, the format behind the
-- mnemonic, and the operands in the order of the manual's Format lines.
use Rattle.std.specs.Prelude.{Bool, true, false, ℕ, ◌+◌, ◌-◌, ◌*◌, ◌/◌, ◌%◌, ◌^◌, ltb}
use Rattle.isa.specs.declared.Width.{Width}
use Rattle.isa.specs.declared.Width.TheVariants.{B}
use Rattle.isa.specs.declared.Instr.{Instr}
use Rattle.isa.specs.declared.Instr.TheVariants as instr
use Rattle.shown.specs.declared.Number.{Number}
use Rattle.shown.specs.declared.Form.{Form}
use Rattle.shown.specs.declared.Form.TheVariants.{Bare, Each, Whole}
use Rattle.shown.specs.declared.Operand.{Operand}
use Rattle.shown.specs.declared.Operand.TheVariants as operand
use Rattle.shown.specs.declared.Operand.TheVariants.{Nothing, Vector, General, Control, Chosen, Offset}
use Rattle.shown.specs.declared.Shown.{Shown}
use Rattle.fields.specs.Fields.{pick}
use Rattle.isa.specs.Widths.{bytes}
use Rattle.ops.specs.Places as place

-- ---- numbers

abbrev pub number : Bool → ℕ → Number
number minus size = record { minus = minus; size = size }

abbrev pub plain : ℕ → Operand
plain x = operand.Number (number false x)

-- a field of so many numbers, the upper half of them below zero
abbrev pub signed : ℕ → ℕ → Number
signed full x = pick (ltb (x % full) (full / 2)) (number false (x % full)) (number true (full - x % full))

-- an offset in elements, as bytes
abbrev pub scaled : Width → Number → Number
scaled df n = number n.minus (n.size * bytes df)

-- ---- instructions

abbrev pub shown : ℕ → Form → Operand → Operand → Operand → Operand → Shown
shown name form a b c d = record { name = name; form = form; a = a; b = b; c = c; d = d }

abbrev pub shown_of : Instr → Shown
shown_of (instr.Three k df wd ws wt) = shown k.0 (Each df) (Vector wd) (Vector ws) (Vector wt) Nothing
shown_of (instr.Indexed k df wd ws rt) = shown k.0 (Each df) (Vector wd) (Chosen ws rt) Nothing Nothing
shown_of (instr.Imm5U k df wd ws imm) = shown k.0 (Each df) (Vector wd) (Vector ws) (plain imm) Nothing
shown_of (instr.Imm5S k df wd ws imm) =
    shown k.0 (Each df) (Vector wd) (Vector ws) (operand.Number (signed (2 ^ 5) imm)) Nothing
shown_of (instr.Ldi df wd imm) =
    shown place.ldi (Each df) (Vector wd) (operand.Number (signed (2 ^ 10) imm)) Nothing Nothing
shown_of (instr.Bit k df wd ws m) = shown k.0 (Each df) (Vector wd) (Vector ws) (plain m) Nothing
shown_of (instr.Imm8 k wd ws imm) = shown k.0 (Each B) (Vector wd) (Vector ws) (plain imm) Nothing
shown_of (instr.Shf df wd ws imm) = shown place.shf (Each df) (Vector wd) (Vector ws) (plain imm) Nothing
shown_of (instr.Element k df wd ws n) = shown k.0 (Each df) (Vector wd) (operand.Element ws n) Nothing Nothing
shown_of (instr.Insve df wd n ws) =
    shown place.insve (Each df) (operand.Element wd n) (operand.Element ws 0) Nothing Nothing
shown_of (instr.Copy k df rd ws n) = shown k.0 (Each df) (General rd) (operand.Element ws n) Nothing Nothing
shown_of (instr.Insert df wd n rs) = shown place.insert (Each df) (operand.Element wd n) (General rs) Nothing Nothing
shown_of (instr.Move wd ws) = shown place.move Whole (Vector wd) (Vector ws) Nothing Nothing
shown_of (instr.Cfcmsa rd cs) = shown place.cfcmsa Bare (General rd) (Control cs) Nothing Nothing
shown_of (instr.Ctcmsa cd rs) = shown place.ctcmsa Bare (Control cd) (General rs) Nothing Nothing
shown_of (instr.Vec k wd ws wt) = shown k.0 Whole (Vector wd) (Vector ws) (Vector wt) Nothing
shown_of (instr.Fill df wd rs) = shown place.fill (Each df) (Vector wd) (General rs) Nothing Nothing
shown_of (instr.Count k df wd ws) = shown k.0 (Each df) (Vector wd) (Vector ws) Nothing Nothing
shown_of (instr.Memory k df wd offset rs) =
    shown k.0 (Each df) (Vector wd) (Offset (scaled df (signed (2 ^ 10) offset)) rs) Nothing Nothing
shown_of (instr.Branch k df wt offset) =
    shown k.0 (Each df) (Vector wt) (operand.Number (signed (2 ^ 16) offset)) Nothing Nothing
shown_of (instr.BranchV k wt offset) =
    shown k.0 Whole (Vector wt) (operand.Number (signed (2 ^ 16) offset)) Nothing Nothing
shown_of (instr.Scaled k rd rs rt sa) = shown k.0 Bare (General rd) (General rs) (General rt) (plain (sa + 1))
shown_of (instr.Fixed k df wd ws wt) = shown k.0 (Each df) (Vector wd) (Vector ws) (Vector wt) Nothing
