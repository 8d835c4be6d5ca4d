-- `parallel::compares::equal` meets its contract. Equal elements differ in no bit.
use borrow.Author.Rules.{rules}
use Rattle.isa.specs.Widths.{bits}
use Rattle.vectors.proofs.Sizes.{shares}
use Rattle.parallel.proofs.Words.{own, same-lanes, xor-lanes}
use mathlib.Core.Path.{ap₂, ◌∙◌}
use Prim.Native.Nat.{◌-◌, ◌*◌, ◌^◌}
use lib.Dec.{ltb}
use lib.Pow.{pow_pos}
use Rattle.linear.specs.Order.{mask}
use Rattle.vectors.proofs.ElementLaws.{element-beyond}
use Rattle.parallel.proofs.Tested.{equal-mask}
use Rattle.vectors.specs.Register.{element}
use Rattle.parallel.proofs.compares.equal.Goals as goal

pub returns : goal.returns
unfolding mask
returns c =
    let a = c.args in
    let share = shares a.w in
    let m = 2 ^ bits a.w - 1 in
    let differ = xor-lanes share (own share a.s (search rules)) (own share a.t (search rules)) in
    same-lanes share c.filled.ensures
    (λ i l. equal-mask m (element (bits a.w) a.s i) (element (bits a.w) a.t i)
    (c.compared.ensures.answer i l
    ∙ ap₂ ltb (element-beyond (bits a.w) 0 i (pow_pos (bits a.w * i))) (differ.at i l)))
