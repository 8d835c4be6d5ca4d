-- `parallel::clipped::max_a` meets its contract. The test of the absolute values picks.
use Rattle.linear.specs.Order.{larger}
use Rattle.parallel.proofs.Tested.{order-of, picked-by}
use Rattle.parallel.proofs.clipped.max_a.Goals as goal

pub returns : goal.returns
unfolding larger
returns c = let p = c in let a = p.args in
    picked-by a.s a.t c.picked.ensures
    (order-of p.compared.ensures p.magnitude.ensures p.magnitude-2.ensures)
