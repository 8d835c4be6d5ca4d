-- `parallel_bits::shifting::last_of` meets its contract. Bit k of twice the element.
use native.Mathlib.Omega.{arith}
use Rattle.isa.specs.Widths.{bits}
use Rattle.vectors.specs.Register.{element}
use Rattle.vectors.proofs.Sizes.{shares}
use Rattle.parallel.proofs.Words.{same-lanes, field-lanes}
use Rattle.parallel_bits.proofs.Amounts.{wide, last-lane}
use Rattle.parallel_bits.proofs.shifting.last_of.Goals as goal

pub returns : goal.returns
returns c =
    let twice = c in
    let start = twice in
    let a = start.args in
    let n = bits a.w in
    let small = start.requires in
    let share = shares a.w in
    same-lanes share (field-lanes share twice.sll.ensures 1 a.k (omega arith) c.units.ensures)
    (λ i l. last-lane n (element n a.s i) a.k (omega (arith, wide a.w)) small)
