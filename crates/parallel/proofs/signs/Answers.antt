-- `parallel::signs` meets its contract. A shift by all bits but one, and a mask.
use borrow.Author.Rules.{rules}
use native.Mathlib.Omega.{arith}
use Rattle.element.proofs.Widths.{size}
use Rattle.isa.specs.Widths.{bits}
use Rattle.vectors.proofs.Sizes.{shares}
use Rattle.parallel.proofs.Words.{own, shr_lanes}
use Prim.Native.Nat.{◌-◌}
use Rattle.parallel.proofs.signs.Goals as goal

pub returns : goal.returns
returns c =
    let a = c.args in
    let share = shares a.w in
    rw c.count.ensures
    (shr_lanes share (own share a.x (search rules)) 1 (bits a.w - 1) (omega (arith, size a.w))
    c.units.ensures)
