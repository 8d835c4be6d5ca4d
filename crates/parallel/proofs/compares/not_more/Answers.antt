-- `parallel::compares::not_more` meets its contract. Not more is not below.
use Rattle.isa.specs.Widths.{bits}
use Rattle.vectors.proofs.Sizes.{shares}
use Rattle.parallel.proofs.Words.{same-lanes}
use Prim.Native.Nat.{◌-◌, ◌^◌}
use Rattle.element.specs.Value.{value}
use Rattle.linear.specs.Order.{mask}
use Rattle.vectors.specs.Register.{element}
use Rattle.parallel.proofs.Tested.{le-mask}
use Rattle.parallel.proofs.compares.not_more.Goals as goal

pub returns : goal.returns
unfolding mask
returns c =
    let a = c.args in
    let m = 2 ^ bits a.w - 1 in
    same-lanes (shares a.w) c.filled.ensures
    (λ i l. le-mask m (value a.g (bits a.w) (element (bits a.w) a.s i))
    (value a.g (bits a.w) (element (bits a.w) a.t i)) (c.below.ensures.answer i l))
