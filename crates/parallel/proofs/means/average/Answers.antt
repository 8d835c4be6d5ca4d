-- `parallel::means::average` meets its contract. The average of the views.
use lib.Dec.{lit<}
use Rattle.parallel.proofs.Halves.{average-lanes}
use Rattle.parallel.proofs.means.average.Goals as goal

pub returns : goal.returns
returns c = let p = c in let a = p.args in
    average-lanes a.w a.g a.s a.t 0 (lit< tt) p.viewed.ensures p.viewed-2.ensures
    c.mean.ensures c.viewed-3.ensures
