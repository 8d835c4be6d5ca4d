-- `parallel_products::dot::dpadd` meets its contract. The ring view.
use Rattle.std.proofs.Common.{sym, ap, ◌∙◌}
use Rattle.isa.specs.Widths.{bits}
use Rattle.vectors.specs.Register.{element}
use Rattle.vectors.proofs.Sizes.{shares}
use Rattle.parallel.proofs.Words.{same-lanes}
use Rattle.linear.specs.Sums.{addv}
use Rattle.products.proofs.Halves.{dpadd-form}
use Rattle.parallel_products.proofs.dot.dpadd.Goals as goal

pub returns : goal.returns
returns c = let a = c.args in let n = bits a.w in
    same-lanes (shares a.w) c.addv.ensures
    (λ i l. ap (addv n (element n a.d i)) (c.dotp.ensures.at i l)
    ∙ sym (dpadd-form a.g n (element n a.d i) (element n a.s i) (element n a.t i)))
