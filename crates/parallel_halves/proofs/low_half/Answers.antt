-- `parallel_halves::low_half` meets its contract. A mask.
use borrow.Author.Rules.{rules}
use Rattle.isa.specs.Widths.{bits}
use Rattle.vectors.proofs.Sizes.{shares}
use Rattle.parallel.proofs.Words.{own, same-lanes, and-lanes}
use Prim.Native.Nat.{◌/◌}
use lib.Bits.{and_mask}
use Rattle.vectors.specs.Register.{element}
use Rattle.parallel_halves.proofs.low_half.Goals as goal

pub returns : goal.returns
returns c =
    let a = c.args in
    let share = shares a.w in
    same-lanes share (and-lanes share (own share a.x (search rules)) c.lower.ensures)
    (λ i l. and_mask (element (bits a.w) a.x i) (bits a.w / 2))
