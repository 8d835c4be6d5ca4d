-- `parallel::clipped::sum_a` meets its contract. ADDV of the absolute values.
use Rattle.isa.specs.Widths.{bits}
use Rattle.vectors.proofs.Sizes.{shares}
use Rattle.parallel.proofs.Words.{same-lanes}
use mathlib.Core.Path.{ap₂}
use Prim.Native.Nat.{◌+◌, ◌%◌, ◌^◌}
use Rattle.linear.specs.Sums.{addv, add_a}
use Rattle.parallel.proofs.clipped.sum_a.Goals as goal

pub returns : goal.returns
unfolding addv add_a
returns c =
    let a = c.args in
    same-lanes (shares a.w) c.addv.ensures
    (λ i l. ap₂ (λ x y. (x + y) % 2 ^ bits a.w) (c.magnitude.ensures.at i l)
    (c.magnitude-2.ensures.at i l))
