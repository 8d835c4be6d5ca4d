-- `parallel_bits::steps::left_each` meets its contract. Bytes go in steps (Barrel), other elements one by one.
use Rattle.std.proofs.Common.{rules, arith}
use Rattle.isa.specs.Widths.{bits}
use Rattle.bits.specs.Shifts.{sll}
use Rattle.parallel_bits.proofs.Amounts.{sll-cut}
use Rattle.parallel_bits.proofs.Barrel.{to-left, bytes}
use Rattle.parallel_bits.proofs.steps.left_each.Goals as goal

pub returns-in-B : goal.returns-in-B
returns-in-B c =
    bytes (to-left c.args.w) c.args.s c.args.t
    (c.mod_8.ensures (sll (bits c.args.w)) (to-left c.args.w) (λ x k r l p. search rules)) c.in-B.is

pub returns-in_default : goal.returns-in_default
returns-in_default c =
    record { below = search rules; at = λ i l. let e = c.built.ensures i l in grind (arith, sll-cut) }
