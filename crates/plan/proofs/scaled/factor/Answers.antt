-- `plan::scaled::factor`: an arm for each shift.
use Prim.Native.Nat.{◌+◌, ◌^◌}
use mathlib.Core.Path.{◌≡◌, sym, ap}
use native.Mathlib.Omega.{arith}
use Rattle.plan.proofs.scaled.factor.Goals as goal

pub returns-in-0 : goal.returns-in-0
returns-in-0 c = ap (λ k. 2 ^ (k + 1)) (sym c.in-0.is)

pub returns-in-1 : goal.returns-in-1
returns-in-1 c = ap (λ k. 2 ^ (k + 1)) (sym c.in-1.is)

pub returns-in-2 : goal.returns-in-2
returns-in-2 c = ap (λ k. 2 ^ (k + 1)) (sym c.in-2.is)

pub returns-in_default : goal.returns-in_default
returns-in_default c =
    let last : c.args.sa ≡ 3 = omega arith in
    ap (λ k. 2 ^ (k + 1)) (sym last)
