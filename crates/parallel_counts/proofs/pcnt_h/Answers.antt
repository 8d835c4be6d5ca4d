-- `parallel_counts::pcnt_h` meets its contract. Once more to counts of twice the width.
use mathlib.Core.Path.{refl}
use Rattle.vectors.specs.Register.{build}
use Rattle.parallel_counts.proofs.Pairs.{low_halves, wider}
use Rattle.parallel_counts.proofs.pcnt_h.Goals as goal

pub returns : goal.returns
returns c =
    let top = c in
    wider 8 refl top.args.s top.ranges.s.fits c.pcnt_b.ensures c.paired.ensures

pub paired-requires : goal.paired-requires
unfolding build
paired-requires c = (refl, low_halves 8 refl refl)
