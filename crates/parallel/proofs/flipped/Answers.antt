-- `parallel::flipped` meets its contract. An element with its top bit turned.
use borrow.Author.Rules.{rules}
use Rattle.element.proofs.Widths.{size}
use Rattle.isa.specs.Widths.{bits}
use Rattle.vectors.proofs.Sizes.{shares}
use Rattle.parallel.proofs.Words.{own, fits, same-lanes, xor-lanes}
use Rattle.parallel.proofs.TopBit.{xor-top}
use Rattle.parallel.proofs.flipped.Goals as goal

pub returns : goal.returns
returns c =
    let a = c.args in
    let share = shares a.w in
    let x = own share a.x (search rules) in
    same-lanes share (xor-lanes share x c.tops.ensures)
    (λ i l. xor-top (bits a.w) (size a.w) (fits share x i l))
