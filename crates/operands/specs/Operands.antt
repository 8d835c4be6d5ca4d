-- The text of an instruction's operands, as a list of bytes.
use Rattle.std.specs.Prelude.{Bool, true, false, List, [], ◌++◌, ℕ}
use Rattle.shown.specs.declared.Number.{Number}
use Rattle.shown.specs.declared.Operand.{Operand}
use Rattle.shown.specs.declared.Operand.TheVariants as operand
use Rattle.fields.specs.Fields.{pick}
use Rattle.text.specs.Text.{bytes}
use Rattle.text.specs.Numerals.{decimal}

abbrev pub vector : ℕ → List ℕ
vector r = bytes "$w" ++ decimal r

-- a general or a control register
abbrev pub register : ℕ → List ℕ
register r = bytes "$" ++ decimal r

abbrev pub number : Number → List ℕ
number n = pick n.minus (bytes "-") [] ++ decimal n.size

abbrev pub operand_text : Operand → List ℕ
operand_text operand.Nothing = []
operand_text (operand.Vector r) = vector r.0
operand_text (operand.General r) = register r.0
operand_text (operand.Control r) = register r.0
operand_text (operand.Number n) = number n
operand_text (operand.Element r n) = vector r.0 ++ bytes "[" ++ decimal n ++ bytes "]"
operand_text (operand.Chosen r g) = vector r.0 ++ bytes "[" ++ register g.0 ++ bytes "]"
operand_text (operand.Offset n g) = number n ++ bytes "(" ++ register g.0 ++ bytes ")"

abbrev pub present : Operand → Bool
present operand.Nothing = false
present (operand.Vector r) = true
present (operand.General r) = true
present (operand.Control r) = true
present (operand.Number n) = true
present (operand.Element r n) = true
present (operand.Chosen r g) = true
present (operand.Offset n g) = true

-- an operand that follows another
abbrev pub next_text : Operand → List ℕ
next_text o = pick (present o) (bytes "," ++ operand_text o) []

abbrev pub operands_text : Operand → Operand → Operand → Operand → List ℕ
operands_text a b c d = operand_text a ++ next_text b ++ next_text c ++ next_text d
