-- `parallel_halves::high_half` meets its contract. A shift and a mask.
use borrow.Author.Rules.{rules}
use Rattle.isa.specs.Widths.{bits}
use Rattle.vectors.proofs.Sizes.{shares}
use Rattle.parallel.proofs.Words.{own, shr_lanes}
use Prim.Native.Nat.{◌/◌}
use Rattle.parallel_halves.proofs.Parts.{halved}
use Rattle.parallel_halves.proofs.high_half.Goals as goal

pub returns : goal.returns
returns c =
    let a = c.args in
    let share = shares a.w in
    rw c.part.ensures
    (shr_lanes share (own share a.x (search rules)) (bits a.w / 2) (bits a.w / 2) (halved a.w)
    c.lower.ensures)
