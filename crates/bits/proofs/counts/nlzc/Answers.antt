-- `bits::counts::nlzc` meets its contract. An element has the leading zeros of the u64, less those above the element.
use Rattle.bits.proofs.Fields.{leading_narrow}
use Rattle.element.proofs.Widths.{size}
use Rattle.isa.specs.Widths.{bits}
use lib.Count.{leading_le}
use native.Mathlib.Omega.{arith}
use Rattle.bits.proofs.counts.nlzc.Goals as goal

pub overflow_sub-result : goal.overflow_sub-result
overflow_sub-result c = let start = c in let w = start.args.w in
    omega (arith, size w, leading_le (bits w) start.args.s, leading_narrow (bits w) start.args.s start.requires (size w).few)

pub returns : goal.returns
returns c = let start = c in let w = start.args.w in
    omega (arith, size w, leading_le (bits w) start.args.s, leading_narrow (bits w) start.args.s start.requires (size w).few)
