-- `listed::common::branched` meets its contract.
use Rattle.std.proofs.Common.{◌≡◌, ◌+◌, ◌%◌, ◌^◌, refl, ap, ◌∙◌}
use native.Mathlib.Nat.{mod-add-mod}
use Rattle.entries.specs.Cut.{extended_of}
use Rattle.machine.proofs.StepLaws.{stopped-is}
use Rattle.machine.specs.Effect.{forwarded}
use Rattle.state.specs.Machine.{machine}
use Rattle.listed.proofs.common.branched.Goals as goal

pub returns-in-Err : goal.returns-in-Err
returns-in-Err c n v g w =
    rw (← c.branch_early.ensures, c.in-Err.is) (stopped-is _ (machine v g w c.args.c) _ c.stopped.ensures)

pub returns : goal.returns
returns c n v g w =
    let a = c.args in
    let to : ((a.c.pc + 4) % 2 ^ 64 + c.extended.result) % 2 ^ 64 ≡ (a.c.pc + 4 + extended_of a.e) % 2 ^ 64 =
    rw c.extended.ensures (mod-add-mod _ _ _) in
    let mark = c.mark_of.ensures in
    rw (← c.branch_early.ensures, c.in_default.is, ← to)
    (record {
      outcome = refl;
      control = c.forward.ensures ∙ ap (λ k. forwarded a.c k a.c.csr) mark;
      vec = refl;
      gen = refl;
      work = refl;
    })
