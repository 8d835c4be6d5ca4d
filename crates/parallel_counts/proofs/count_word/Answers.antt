-- `parallel_counts::count_word` meets its contract. Each arm hands on what its function ensures.
use mathlib.Core.Path.{ap}
use lib.Count.{count_leading_zeros}
use Rattle.isa.specs.Widths.{bits}
use Rattle.bits.specs.Places.{nloc}
use Rattle.vectors.proofs.Sizes.{shares}
use Rattle.parallel.proofs.Words.{same-lanes}
use Rattle.parallel_counts.proofs.count_word.Goals as goal

pub returns-in-Nloc : goal.returns-in-Nloc
unfolding nloc
returns-in-Nloc c =
    let w = c.args.w in
    rw c.in-Nloc.is
    (same-lanes (shares w) c.nlzc.ensures (λ i l. ap (count_leading_zeros (bits w)) (c.inverse.ensures.at i l)))
