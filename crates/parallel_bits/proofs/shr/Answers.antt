-- `parallel_bits::shr` meets its contract. What came from the next element is taken off.
use borrow.Author.Rules.{rules}
use native.Mathlib.Omega.{arith}
use Rattle.isa.specs.Widths.{bits}
use Rattle.vectors.proofs.Sizes.{shares}
use Rattle.parallel.proofs.Words.{own, shr_lanes}
use Prim.Native.Nat.{◌-◌}
use Rattle.parallel_bits.proofs.shr.Goals as goal

pub returns : goal.returns
returns c =
    let a = c.args in
    let share = shares a.w in
    shr_lanes share (own share a.s (search rules)) (bits a.w - a.k) a.k (omega (arith, c.requires))
    c.kept.ensures
