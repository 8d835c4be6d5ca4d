-- `plan::zero::taken_v`: a register is zero where both of its words are.
use Prim.Native.Nat.{◌^◌}
use Rattle.plan.proofs.ZeroLaws.{both_zero}
use Rattle.plan.specs.Zero.{taken_if}
use lib.Pow.{pow_pos}
use mathlib.Core.Path.{ap, ◌∙◌}
use Rattle.plan.proofs.zero.taken_v.Goals as goal

pub returns : goal.returns
returns c =
    let a = c.args in
    c.taken_if.ensures ∙ ap (taken_if a.op) (both_zero a.t.low a.t.high (2 ^ 64) (pow_pos 64))
