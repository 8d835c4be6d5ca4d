-- What a scan finds in the operands of an instruction, and in its whole text. Assumes nothing.
use mathlib.Core.Path.{◌≡◌, refl, sym, ap, ◌∙◌}
use mathlib.Core.Bool.{Bool, true, false}
use mathlib.Core.List.{List, [], ◌∷◌, ◌++◌, append_assoc, append-nil}
use Prim.Native.Nat.{ℕ, ◌<◌}
use lib.Dec.{eqb}
use Rattle.fields.specs.Fields.{pick}
use Rattle.text.specs.Text.{bytes}
use Rattle.text.specs.Numerals.{decimal}
use Rattle.shown.specs.declared.Operand.{Operand}
use Rattle.shown.specs.declared.Operand.TheVariants as operand
use Rattle.operands.specs.Operands.{operand_text, next_text, operands_text}
use Rattle.same_text.proofs.Scan.{mark, run, is_digit, Break, number-run}

abbrev pub sign_tokens : Bool → List ℕ → List ℕ
sign_tokens true l = mark ∷ l
sign_tokens false l = l

abbrev pub tokens : Operand → List ℕ → List ℕ
tokens operand.Nothing l = l
tokens (operand.Vector r) l = r.0 ∷ l
tokens (operand.General r) l = r.0 ∷ l
tokens (operand.Control r) l = r.0 ∷ l
tokens (operand.Number n) l = sign_tokens n.minus (n.size ∷ l)
tokens (operand.Element r n) l = r.0 ∷ n ∷ l
tokens (operand.Chosen r g) l = r.0 ∷ g.0 ∷ l
tokens (operand.Offset n g) l = sign_tokens n.minus (n.size ∷ g.0 ∷ l)

-- every number has at most five digits
abbrev pub Short : Operand → Type 0
Short operand.Nothing = Unit {0}
Short (operand.Vector r) = r.0 < 100000
Short (operand.General r) = r.0 < 100000
Short (operand.Control r) = r.0 < 100000
Short (operand.Number n) = n.size < 100000
Short (operand.Element r n) = (r.0 < 100000) × (n < 100000)
Short (operand.Chosen r g) = (r.0 < 100000) × (g.0 < 100000)
Short (operand.Offset n g) = (n.size < 100000) × (g.0 < 100000)

sign-run : (m : Bool) (t : List ℕ) → run 0 false (pick m (bytes "-") [] ++ t) ≡ sign_tokens m (run 0 false t)
unfolding run
sign-run true t = refl
sign-run false t = refl

-- a letter that a scan does not keep
pub skip : (c : ℕ) (t : List ℕ) → is_digit c ≡ false → eqb c 45 ≡ false → run 0 false (c ∷ t) ≡ run 0 false t
unfolding run
skip c t d m = rw (d, m)

empty-run : run 0 false [] ≡ []
unfolding run
empty-run = refl

operand-run : (o : Operand) (rest : List ℕ) → Short o → Break rest → run 0 false (operand_text o ++ rest) ≡ tokens o (run 0 false rest)
operand-run operand.Nothing rest s b = refl
operand-run (operand.Vector r) rest s b = skip 36 _ refl refl ∙ skip 119 _ refl refl ∙ number-run r.0 rest s b
operand-run (operand.General r) rest s b = skip 36 _ refl refl ∙ number-run r.0 rest s b
operand-run (operand.Control r) rest s b = skip 36 _ refl refl ∙ number-run r.0 rest s b
operand-run (operand.Number n) rest s b =
    ap (run 0 false) (append_assoc (pick n.minus (bytes "-") []) (decimal n.size) rest)
    ∙ sign-run n.minus (decimal n.size ++ rest)
    ∙ ap (sign_tokens n.minus) (number-run n.size rest s b)
operand-run (operand.Element r n) rest s b =
    let flat : operand_text (operand.Element r n) ++ rest ≡ 36 ∷ 119 ∷ (decimal r.0 ++ (91 ∷ (decimal n ++ (93 ∷ rest)))) = simp append_assoc in
    ap (run 0 false) flat
    ∙ skip 36 _ refl refl ∙ skip 119 _ refl refl
    ∙ number-run r.0 (91 ∷ (decimal n ++ (93 ∷ rest))) s.0 refl
    ∙ ap (λ l. r.0 ∷ l) (skip 91 _ refl refl ∙ number-run n (93 ∷ rest) s.1 refl ∙ ap (λ l. n ∷ l) (skip 93 rest refl refl))
operand-run (operand.Chosen r g) rest s b =
    let flat : operand_text (operand.Chosen r g) ++ rest ≡ 36 ∷ 119 ∷ (decimal r.0 ++ (91 ∷ 36 ∷ (decimal g.0 ++ (93 ∷ rest)))) =
    simp append_assoc (ap (λ l. 36 ∷ 119 ∷ l) (append_assoc (decimal r.0) (bytes "[") (bytes "$" ++ (decimal g.0 ++ (bytes "]" ++ rest))))) in
    ap (run 0 false) flat
    ∙ skip 36 _ refl refl ∙ skip 119 _ refl refl
    ∙ number-run r.0 (91 ∷ 36 ∷ (decimal g.0 ++ (93 ∷ rest))) s.0 refl
    ∙ ap (λ l. r.0 ∷ l) (skip 91 _ refl refl ∙ skip 36 _ refl refl ∙ number-run g.0 (93 ∷ rest) s.1 refl ∙ ap (λ l. g.0 ∷ l) (skip 93 rest refl refl))
operand-run (operand.Offset n g) rest s b =
    let flat : operand_text (operand.Offset n g) ++ rest
    ≡ pick n.minus (bytes "-") [] ++ (decimal n.size ++ (40 ∷ 36 ∷ (decimal g.0 ++ (41 ∷ rest)))) = simp append_assoc in
    ap (run 0 false) flat
    ∙ sign-run n.minus (decimal n.size ++ (40 ∷ 36 ∷ (decimal g.0 ++ (41 ∷ rest))))
    ∙ ap (sign_tokens n.minus)
    (number-run n.size (40 ∷ 36 ∷ (decimal g.0 ++ (41 ∷ rest))) s.0 refl
    ∙ ap (λ l. n.size ∷ l) (skip 40 _ refl refl ∙ skip 36 _ refl refl ∙ number-run g.0 (41 ∷ rest) s.1 refl ∙ ap (λ l. g.0 ∷ l) (skip 41 rest refl refl)))

next-run : (o : Operand) (rest : List ℕ) → Short o → Break rest → run 0 false (next_text o ++ rest) ≡ tokens o (run 0 false rest)
next-run operand.Nothing rest s b = refl
next-run (operand.Vector r) rest s b = skip 44 _ refl refl ∙ operand-run (operand.Vector r) rest s b
next-run (operand.General r) rest s b = skip 44 _ refl refl ∙ operand-run (operand.General r) rest s b
next-run (operand.Control r) rest s b = skip 44 _ refl refl ∙ operand-run (operand.Control r) rest s b
next-run (operand.Number n) rest s b = skip 44 _ refl refl ∙ operand-run (operand.Number n) rest s b
next-run (operand.Element r n) rest s b = skip 44 _ refl refl ∙ operand-run (operand.Element r n) rest s b
next-run (operand.Chosen r g) rest s b = skip 44 _ refl refl ∙ operand-run (operand.Chosen r g) rest s b
next-run (operand.Offset n g) rest s b = skip 44 _ refl refl ∙ operand-run (operand.Offset n g) rest s b

next-break : (o : Operand) (rest : List ℕ) → Break rest → Break (next_text o ++ rest)
next-break operand.Nothing rest b = b
next-break (operand.Vector r) rest b = refl
next-break (operand.General r) rest b = refl
next-break (operand.Control r) rest b = refl
next-break (operand.Number n) rest b = refl
next-break (operand.Element r n) rest b = refl
next-break (operand.Chosen r g) rest b = refl
next-break (operand.Offset n g) rest b = refl

pub operands-run : (a b c d : Operand) → Short a → Short b → Short c → Short d
    → run 0 false (operands_text a b c d) ≡ tokens a (tokens b (tokens c (tokens d [])))
operands-run a b c d sa sb sc sd =
    let d' = next_text d ++ [] in
    let c' = next_text c ++ d' in
    let b' = next_text b ++ c' in
    let bd : Break d' = next-break d [] tt in
    let bc : Break c' = next-break c d' bd in
    let nested : operands_text a b c d ≡ operand_text a ++ b' = sym (append-nil (operands_text a b c d)) ∙ simp append_assoc in
    ap (run 0 false) nested
    ∙ operand-run a b' sa (next-break b c' bc)
    ∙ ap (tokens a) (next-run b c' sb bc ∙ ap (tokens b) (next-run c d' sc bd ∙ ap (tokens c) (next-run d [] sd tt ∙ ap (tokens d) empty-run)))
