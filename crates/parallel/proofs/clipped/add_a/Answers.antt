-- `parallel::clipped::add_a` meets its contract. A word of one element is the lane.
use borrow.Author.Rules.{rules}
use Rattle.linear.specs.Sums.{add_a}
use Rattle.parallel.proofs.Whole.{one_lane}
use Rattle.parallel.proofs.clipped.add_a.Goals as goal

pub returns-in-D : goal.returns-in-D
returns-in-D c =
    let told = c in
    let e = rw told.in-D.is at c.add_a.ensures in
    rw told.in-D.is (one_lane (add_a 64) (search rules) (search rules) (search rules) e)
