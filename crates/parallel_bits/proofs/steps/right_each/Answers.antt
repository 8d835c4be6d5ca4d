-- `parallel_bits::steps::right_each` meets its contract. Bytes go in steps (Barrel), other elements one by one.
use Rattle.std.proofs.Common.{◌/◌, ◌^◌, rules}
use Rattle.parallel_bits.proofs.Barrel.{to-right, bytes}
use Rattle.parallel_bits.proofs.steps.right_each.Goals as goal

pub returns-in-B : goal.returns-in-B
returns-in-B c =
    bytes (to-right c.args.w) c.args.s c.args.t
    (c.mod_8.ensures (λ a k. a / 2 ^ k) (to-right c.args.w) (λ x k r l p. search rules)) c.in-B.is

pub returns-in_default : goal.returns-in_default
returns-in_default c = record { below = search rules; at = λ i l. let e = c.built.ensures i l in search rules }
