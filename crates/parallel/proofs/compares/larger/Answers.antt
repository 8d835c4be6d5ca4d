-- `parallel::compares::larger` meets its contract. The test picks.
use Rattle.linear.specs.Order.{larger}
use Rattle.parallel.proofs.Tested.{picked-by}
use Rattle.parallel.proofs.compares.larger.Goals as goal

pub returns : goal.returns
unfolding larger
returns c =
    let a = c.args in
    picked-by a.s a.t c.picked.ensures c.below.ensures
