-- `parallel_products::dot::dpsub` meets its contract. The ring view.
use Rattle.std.proofs.Common.{sym, ap, ◌∙◌}
use Rattle.isa.specs.Widths.{bits}
use Rattle.vectors.specs.Register.{element}
use Rattle.vectors.proofs.Sizes.{shares}
use Rattle.parallel.proofs.Words.{same-lanes}
use Rattle.linear.specs.Sums.{subv}
use Rattle.products.proofs.Halves.{dpsub-form}
use Rattle.parallel_products.proofs.dot.dpsub.Goals as goal

pub returns : goal.returns
returns c = let a = c.args in let n = bits a.w in
    same-lanes (shares a.w) c.subv.ensures
    (λ i l. ap (subv n (element n a.d i)) (c.dotp.ensures.at i l)
    ∙ sym (dpsub-form a.g n (element n a.d i) (element n a.s i) (element n a.t i)))
