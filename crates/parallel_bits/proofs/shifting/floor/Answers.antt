-- `parallel_bits::shifting::floor` meets its contract. The one amount is each element's.
use Rattle.std.proofs.Common.{rules}
use Rattle.parallel_bits.proofs.shifting.floor.Goals as goal

pub returns : goal.returns
returns c = c.in_reading.ensures (λ _. c.args.k) (λ _. c.requires) (λ x r p. search rules)
