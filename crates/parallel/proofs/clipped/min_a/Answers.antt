-- `parallel::clipped::min_a` meets its contract. The test of the absolute values picks.
use Rattle.linear.specs.Order.{smaller}
use Rattle.parallel.proofs.Tested.{order-of, picked-by}
use Rattle.parallel.proofs.clipped.min_a.Goals as goal

pub returns : goal.returns
unfolding smaller
returns c = let p = c in let a = p.args in
    picked-by a.s a.t c.picked.ensures
    (order-of p.compared.ensures p.magnitude.ensures p.magnitude-2.ensures)
