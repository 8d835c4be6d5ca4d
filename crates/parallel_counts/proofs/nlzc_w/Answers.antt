-- `parallel_counts::nlzc_w` meets its contract. Two elements, each counted by itself.
use Prim.Native.Nat.{ℕ, ◌^◌, ◌<◌}
use native.Mathlib.Omega.{arith}
use lib.Count.{count_leading_zeros, leading_le}
use Rattle.parallel_counts.proofs.Apart.{two_lanes}
use Rattle.parallel_counts.proofs.nlzc_w.Goals as goal

zeros-below : (x : ℕ) → count_leading_zeros 32 x < 2 ^ 32
zeros-below x = omega (arith, leading_le 32 x)

pub returns : goal.returns
returns c =
    let top = c in
    two_lanes (count_leading_zeros 32) top.args.s top.ranges.s.fits zeros-below
    c.nlzc-low.ensures c.nlzc-high.ensures
