-- `parallel_counts::pcnt_b` meets its contract. Bits are counts, and three times they go to counts of twice the width.
use mathlib.Core.Path.{refl}
use Rattle.vectors.specs.Register.{build}
use Rattle.parallel_counts.proofs.Pairs.{low_halves, wider, bits-counted}
use Rattle.parallel_counts.proofs.pcnt_b.Goals as goal

pub returns : goal.returns
returns c =
    let top = c in
    let s = top.args.s in
    let h = top.ranges.s.fits in
    let pairs = wider 1 refl s h (bits-counted s h) c.paired-pairs.ensures in
    let fours = wider 2 refl s h pairs c.paired-fours.ensures in
    wider 4 refl s h fours c.paired.ensures

pub paired-pairs-requires : goal.paired-pairs-requires
unfolding build
paired-pairs-requires c = (refl, low_halves 1 refl refl)

pub paired-fours-requires : goal.paired-fours-requires
unfolding build
paired-fours-requires c = (refl, low_halves 2 refl refl)

pub paired-requires : goal.paired-requires
unfolding build
paired-requires c = (refl, low_halves 4 refl refl)
