-- `parallel_bits::shifting::in_reading` meets its contract. For negative elements by the other bits.
use Rattle.std.proofs.Common.{rules}
use Rattle.parallel_bits.proofs.Floors.{srl-lanes, sra-lanes}
use Rattle.parallel_bits.proofs.shifting.in_reading.Goals as goal

pub returns-in-Unsigned : goal.returns-in-Unsigned
returns-in-Unsigned g c = λ k small each.
    rw c.in-Unsigned.is (srl-lanes c.args.w c.args.s k small (each _ _ c.shift.ensures))

pub returns : goal.returns
returns g c = λ k small each.
    rw c.in-Signed.is
    (sra-lanes c.args.w c.args.s k small (search rules) c.filled-m.ensures (each _ _ c.shift-in-Signed.ensures))
