-- `parallel_bits::shifting::shift_right` meets its contract. The amounts are the elements of t.
use Rattle.std.proofs.Common.{◌%◌, rules}
use Rattle.isa.specs.Widths.{bits}
use Rattle.vectors.specs.Register.{element}
use Rattle.parallel_bits.proofs.Amounts.{amount-below}
use Rattle.parallel_bits.proofs.shifting.shift_right.Goals as goal

pub returns : goal.returns
returns c =
    let w = c.args.w in
    c.in_reading.ensures (λ i. element (bits w) c.args.t i % bits w) (λ i. amount-below w (element (bits w) c.args.t i))
    (λ x r p. search rules)
