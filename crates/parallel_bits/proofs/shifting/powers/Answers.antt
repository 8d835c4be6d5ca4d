-- `parallel_bits::shifting::powers` meets its contract. 1 shifted by an amount below the width is the power.
use Rattle.std.proofs.Common.{◌%◌, ap, ◌∙◌}
use Rattle.isa.specs.Widths.{bits}
use Rattle.bits.specs.Shifts.{sll}
use Rattle.vectors.specs.Register.{element}
use Rattle.vectors.proofs.Sizes.{shares}
use Rattle.parallel.proofs.Words.{same-lanes}
use Rattle.parallel_bits.proofs.Amounts.{amount-below, sll-one}
use Rattle.parallel_bits.proofs.shifting.powers.Goals as goal

pub returns-in-None : goal.returns-in-None
returns-in-None c =
    let a = c.args in
    let n = bits a.w in
    same-lanes (shares a.w) c.left_each.ensures
    (λ i l. ap (λ x. sll n x (element n a.t i % n)) (c.units.ensures.at i l)
    ∙ sll-one n (element n a.t i % n) (amount-below a.w (element n a.t i)))
