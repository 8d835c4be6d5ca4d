-- Division by 0 at any width, in plain numbers.
-- Assumes nothing.
use Rattle.std.proofs.Common.{◌≡◌, ℕ, ◌-◌, ◌^◌, ◌<◌, Bool, true, false, cond, ltb, sym, refl, ◌∙◌, arith, ne_eqb}
use Rattle.element.specs.declared.Reading.TheVariants.{Unsigned, Signed}
use Rattle.element.specs.Value.{top, wrap}
use Rattle.element.proofs.Widths.{Size, sized}
use Rattle.products.specs.ByZero.{div-s, div-u, mod-s, mod-u, by_zero, Divides}
use Rattle.products.specs.Products.{quotient, remainder}
use Rattle.products.specs.Signs.{by_sign}
use Rattle.products.proofs.Quotient.{plus-is, minus_is, sign, quotient-zero, remainder-zero}

module _ (n : ℕ) (size : Size n) where
  minus_one : wrap n (by_sign true 1) ≡ 2 ^ n - 1
  minus_one =
      sym
      (minus_is n size {b = true} {m = 1} {r = 2 ^ n - 1} refl (omega (arith, size.some)) (λ e. absurd (omega arith)))

  one : wrap n (by_sign false 1) ≡ 1
  one = sym (plus-is n size {b = false} {m = 1} refl (omega (arith, size.some, size.twice)))

  unsigned-by-zero : (s t : ℕ) → t ≡ 0 → quotient Unsigned n s t ≡ by_zero div-u n s
  unsigned-by-zero s t h = quotient-zero Unsigned n s t h ∙ minus_one

  signed-by-zero : (s t : ℕ) → s < 2 ^ n → t ≡ 0 → quotient Signed n s t ≡ by_zero div-s n s
  signed-by-zero s t l h = quotient-zero Signed n s t h ∙ rw (sign n s l) (go (ltb s (top n)))
    where
      go : (b : Bool) → wrap n (by_sign b 1) ≡ cond b (2 ^ n - 1) 1
      go true = minus_one
      go false = one

pub divides : Divides
unfolding quotient remainder
divides div-s n some few d s t l =
    record { zero = signed-by-zero n (sized n some few) s t l; other = λ h. rw (ne_eqb t 0 h) }
divides div-u n some few d s t l =
    record { zero = unsigned-by-zero n (sized n some few) s t; other = λ h. rw (ne_eqb t 0 h) }
divides mod-s n some few d s t l = record { zero = remainder-zero Signed n s t l; other = λ h. rw (ne_eqb t 0 h) }
divides mod-u n some few d s t l = record { zero = remainder-zero Unsigned n s t l; other = λ h. rw (ne_eqb t 0 h) }
