-- `parallel_bits::places::bclr` meets its contract. A bit that is there is taken off.
use borrow.Author.Rules.{rules}
use Prim.Native.Nat.{◌%◌, ◌^◌}
use lib.Bits.{and_le_l}
use Rattle.isa.specs.Widths.{bits}
use Rattle.vectors.specs.Register.{element}
use Rattle.vectors.proofs.Sizes.{shares}
use Rattle.parallel.proofs.Words.{own, same-lanes, and-lanes, minus-lanes}
use Rattle.parallel_bits.proofs.Amounts.{clear-lane}
use Rattle.parallel_bits.proofs.places.bclr.Goals as goal

pub returns : goal.returns
returns c =
    let a = c.args in
    let n = bits a.w in
    let share = shares a.w in
    let s = own share a.s (search rules) in
    same-lanes share (minus-lanes share s (and-lanes share s c.powers.ensures)
    (λ i l. and_le_l (element n a.s i) (2 ^ (element n a.t i % n))))
    (λ i l. clear-lane (element n a.s i) (element n a.t i % n))
