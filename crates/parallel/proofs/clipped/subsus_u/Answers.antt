-- `parallel::clipped::subsus_u` meets its contract. By the sign of t.
use borrow.Author.Rules.{rules}
use Rattle.element.proofs.Widths.{size}
use Rattle.isa.specs.Widths.{bits}
use Rattle.vectors.proofs.Sizes.{shares}
use Rattle.parallel.proofs.Words.{own, fits, same-lanes}
use mathlib.Core.Path.{ap, ap₂, ◌∙◌}
use mathlib.Core.Bool.{cond}
use lib.Dec.{ltb}
use Rattle.element.specs.declared.Reading.TheVariants.{Unsigned}
use Rattle.element.specs.Value.{top}
use Rattle.linear.specs.Sums.{adds}
use Rattle.vectors.specs.Register.{element}
use Rattle.parallel.proofs.Held.{subsus-lane}
use Rattle.parallel.proofs.clipped.subsus_u.Goals as goal

pub returns : goal.returns
returns c =
    let a = c.args in
    let share = shares a.w in
    let n = bits a.w in
    let s = own share a.s (search rules) in
    let t = own share a.t (search rules) in
    same-lanes share c.picked.ensures
    (λ i l. ap₂ (cond (ltb (element n a.t i) (top n))) (c.subs_u.ensures.at i l)
    (c.adds_u.ensures.at i l
    ∙ ap (adds Unsigned n (element n a.s i)) (c.magnitude.ensures.at i l))
    ∙ subsus-lane n (size a.w) (fits share s i l) (fits share t i l))
