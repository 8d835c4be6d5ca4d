-- `parallel_products::fixed_point::fixed` meets its contract: each of the six is the sum with its parts (SixParts).
use Rattle.std.proofs.Common.{◌≡◌, ℕ, ◌*◌, refl, ap, ◌∙◌, pow_pos}
use Rattle.isa.specs.declared.Fixed.{Fixed}
use Rattle.isa.specs.declared.Fixed.TheVariants.{MulQ, MaddQ, MsubQ, MulrQ, MaddrQ, MsubrQ}
use Rattle.isa.specs.Widths.{bits}
use Rattle.element.proofs.Widths.{size}
use Rattle.fixed.specs.Fixed.{cut, summed}
use Rattle.fixed.specs.Parts.{old}
use Rattle.fixed.proofs.SixParts.{parts}
use Rattle.vectors.specs.Register.{element}
use Rattle.vectors.proofs.ElementLaws.{element-below, element-beyond}
use Rattle.vectors.proofs.Sizes.{shares}
use Rattle.parallel.proofs.Words.{same-lanes}
use Rattle.parallel_products.proofs.fixed_point.fixed.Goals as goal

-- the elements of 0 are 0
none : (n i : ℕ) → element n 0 i ≡ 0
none n i = element-beyond n 0 i (pow_pos (n * i))

old-at : (n d i : ℕ) (o : Fixed) → element n (old o d) i ≡ old o (element n d i)
old-at n d i MulQ = none n i
old-at n d i MaddQ = refl
old-at n d i MsubQ = refl
old-at n d i MulrQ = none n i
old-at n d i MaddrQ = refl
old-at n d i MsubrQ = refl

pub returns : goal.returns
returns c =
    let p = c in
    let start = p in
    let a = start.args in
    let n = bits a.w in
    same-lanes (shares a.w) c.sums.ensures
    (λ i l.
    ap (λ x. cut p.rounds.result n
    (summed p.subtracts.result n x (element n a.s i) (element n a.t i)))
    (ap (λ x. element n x i) p.old.ensures ∙ old-at n a.d i a.op)
    ∙ rw (p.rounds.ensures, p.subtracts.ensures)
    (parts n (size a.w) (record { first = element-below n a.s i; second = element-below n a.t i })
    (element n a.d i) a.op))
