-- `parallel::compares::less` meets its contract. The mask of no, the other way round.
use Rattle.isa.specs.Widths.{bits}
use Rattle.vectors.proofs.Sizes.{shares}
use Rattle.parallel.proofs.Words.{same-lanes}
use mathlib.Core.Path.{ap, ◌∙◌}
use Prim.Native.Nat.{◌-◌, ◌^◌}
use Rattle.linear.specs.Order.{mask}
use Rattle.parallel.proofs.Tested.{no_ones}
use Rattle.parallel.proofs.compares.less.Goals as goal

pub returns : goal.returns
unfolding mask
returns c =
    let a = c.args in
    let m = 2 ^ bits a.w - 1 in
    same-lanes (shares a.w) c.inverse.ensures
    (λ i l. ap (λ x. m - x) (c.filled.ensures.at i l)
    ∙ no_ones m (c.below.ensures.answer i l))
