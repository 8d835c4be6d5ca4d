-- `machine::step::step`: refused, or done as a run of one instruction on register files of their sizes.
use Rattle.machine.proofs.RunLaws.{one-step}
use Rattle.machine.proofs.StepLaws.{ran-is}
use Rattle.state.proofs.Said.{setup-is, sized}
use Rattle.state.specs.Machine.{env, machine}
use Rattle.std.proofs.Common.{◌≡◌, refl, rules}
use Rattle.machine.proofs.step.step.Goals as goal

pub unreachable-requires : goal.unreachable-requires
unreachable-requires c =
    let a = c.args in
    let m = machine a.vectors.now a.generals.now a.work.now a.c in
    let long = (sized a.program.now (env a.board a.table.now) m c.check.ensures c.in_default.is).vectors in
    search rules

pub unreachable-requires-in_default-as_mut_array-2 : goal.unreachable-requires-in_default-as_mut_array-2
unreachable-requires-in_default-as_mut_array-2 c =
    let a = c.args in
    let m = machine a.vectors.now a.generals.now a.work.now a.c in
    let long = (sized a.program.now (env a.board a.table.now) m c.check.ensures c.in_default.is).generals in
    search rules

pub returns : goal.returns
returns c =
    let vectors : c.in-Some.vectors.now ≡ c.args.vectors.now = search rules in
    let generals : c.in-Some-as_mut_array.generals.now ≡ c.args.generals.now = search rules in
    let done = one-step _ _ _ _ _ _ _ c.turns-e.ensures in
    rw (← setup-is c.check.ensures, c.in_default.is, ← vectors, ← generals)
    (ran-is _ _ _ _ _ _ (rw c.as_step.ensures done) c.ran.ensures)

pub returns-in-Err : goal.returns-in-Err
returns-in-Err c =
    rw (← setup-is c.check.ensures, c.in-Err.is)
    (record { answer = refl; carried = refl; control = refl; vec = refl; gen = refl; work = refl })
