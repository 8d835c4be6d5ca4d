-- `parallel::compares::smaller` meets its contract. The test picks.
use Rattle.linear.specs.Order.{smaller}
use Rattle.parallel.proofs.Tested.{picked-by}
use Rattle.parallel.proofs.compares.smaller.Goals as goal

pub returns : goal.returns
unfolding smaller
returns c =
    let a = c.args in
    picked-by a.s a.t c.picked.ensures c.below.ensures
