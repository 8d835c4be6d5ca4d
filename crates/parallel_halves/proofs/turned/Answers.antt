-- `parallel_halves::turned` meets its contract. A half with its top bit turned.
use borrow.Author.Rules.{rules}
use Prim.Native.Nat.{◌/◌}
use Rattle.isa.specs.Widths.{bits}
use Rattle.element.proofs.Widths.{half-size}
use Rattle.vectors.proofs.Sizes.{shares}
use Rattle.parallel.proofs.Words.{own, same-lanes, xor-lanes}
use Rattle.parallel.proofs.TopBit.{xor-top}
use Rattle.parallel_halves.proofs.turned.Goals as goal

pub returns : goal.returns
returns c =
    let start = c in
    let a = start.args in
    let share = shares a.w in
    same-lanes share (xor-lanes share (own share a.x (search rules)) c.middle.ensures)
    (λ i l. xor-top (bits a.w / 2) (half-size a.w).part (start.requires i l))
