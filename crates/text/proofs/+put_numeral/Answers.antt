-- A numeral is that of the quotient, if it goes on, and the last digit.
use Rattle.std.proofs.Common.{◌≡◌, refl, ap, [], ◌∷◌, ℕ, false, ltb, rules}
use Rattle.fields.specs.Fields.{both}
use Rattle.text.proofs.Puts.{puts-as, puts_then}
use Rattle.text.proofs.Numerals.{more}
use Rattle.text.proofs.+put_numeral.Goals as goal
use Rattle.text.proofs.+put_numeral.Goals.{else-short-via-then-short+else-n-base, else-short-via-else-short}

letter : {x y : ℕ} → x ≡ y → x ∷ [] ≡ y ∷ []
letter e = ap (λ (d : ℕ). d ∷ []) e

pub returns : goal.returns
returns t c =
    let a = c.args in
    let on : both a.short (ltb a.n a.base) ≡ false =
    elim c.else-short.branch [
      | else-short-via-then-short+else-n-base w ↦ rw w.if-short.true (search rules)
      | else-short-via-else-short w ↦ rw w.if-short.false refl
    ] in
    puts-as (more a.base a.short a.most a.n c.if-most-eq0.false on)
    (puts_then c.put_numeral-next.ensures (puts-as (letter c.digit_of-last.ensures) c.put_byte-2.ensures))
