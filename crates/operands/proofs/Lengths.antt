-- How long operands may be, by their kinds. Assumes nothing.
use mathlib.Core.Bool.{Bool, true, false}
use mathlib.Core.List.{[], ◌++◌}
use Prim.Native.Nat.{ℕ, ◌+◌, ◌≤◌}
use native.Mathlib.Omega.{arith}
use lib.ListN.{length, length-append}
use Rattle.shown.specs.declared.Number.{Number}
use Rattle.shown.specs.declared.Operand.{Operand}
use Rattle.shown.specs.declared.Operand.TheVariants as operand
use Rattle.shown.specs.declared.Shown.{Shown}
use Rattle.fields.specs.Fields.{pick}
use Rattle.text.specs.Text.{bytes}
use Rattle.text.specs.Numerals.{decimal}
use Rattle.text.proofs.Numerals.{decimal-length}
use Rattle.operands.specs.Operands.{number, operand_text, present, next_text, operands_text}

number_fits : (n : Number) → length (number n) ≤ 6
number_fits n = sign n.minus
  where
    sign : (b : Bool) → length (pick b (bytes "-") [] ++ decimal n.size) ≤ 6
    sign true = omega (arith, decimal-length n.size)
    sign false = omega (arith, decimal-length n.size)

-- the longest that an operand of a kind may be
abbrev most : Operand → ℕ
most operand.Nothing = 0
most (operand.Vector r) = 7
most (operand.General r) = 6
most (operand.Control r) = 6
most (operand.Number n) = 6
most (operand.Element r n) = 14
most (operand.Chosen r g) = 15
most (operand.Offset n g) = 14

operand-fits : (o : Operand) → length (operand_text o) ≤ most o
operand-fits operand.Nothing = omega arith
operand-fits (operand.Vector r) = omega (arith, decimal-length r.0)
operand-fits (operand.General r) = omega (arith, decimal-length r.0)
operand-fits (operand.Control r) = omega (arith, decimal-length r.0)
operand-fits (operand.Number n) = number_fits n
operand-fits (operand.Element r n) = simp length-append (omega (arith, decimal-length r.0, decimal-length n))
operand-fits (operand.Chosen r g) = simp length-append (omega (arith, decimal-length r.0, decimal-length g.0))
operand-fits (operand.Offset n g) = simp length-append (omega (arith, simp length-append at (number_fits n), decimal-length g.0))

-- with the comma before it
abbrev most_next : Operand → ℕ
most_next o = pick (present o) (1 + most o) 0

next_fits : (o : Operand) → length (next_text o) ≤ most_next o
next_fits o = comma (present o)
  where
    comma : (b : Bool) → length (pick b (bytes "," ++ operand_text o) []) ≤ pick b (1 + most o) 0
    comma true = omega (arith, operand-fits o)
    comma false = omega arith

abbrev pub most_of : Shown → ℕ
most_of s = most s.a + most_next s.b + most_next s.c + most_next s.d

pub operands-fit : (s : Shown) → length (operands_text s.a s.b s.c s.d) ≤ most_of s
operands-fit s =
    simp length-append (omega (arith, operand-fits s.a, next_fits s.b, next_fits s.c, next_fits s.d))
