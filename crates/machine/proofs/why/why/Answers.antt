-- `machine::why::why`: refused, or what `next` says.
use Rattle.state.proofs.Said.{setup-is, sized}
use Rattle.state.specs.Machine.{env, machine}
use Rattle.machine.proofs.WhyLaws.{meets}
use Rattle.std.proofs.Common.{◌≡◌, refl, rules}
use Rattle.machine.proofs.why.why.Goals as goal

pub unreachable-requires : goal.unreachable-requires
unreachable-requires c =
    let a = c.args in
    let m = machine a.vectors.now a.generals.now a.work.now a.c in
    let long = (sized a.program.now (env a.board a.table.now) m c.check.ensures c.in_default.is).generals in
    search rules

pub returns : goal.returns
returns c =
    let generals : c.in-Some.generals.now ≡ c.args.generals.now = search rules in
    rw (← setup-is c.check.ensures, c.in_default.is, ← generals) (meets c.next.ensures)

pub returns-in-Err : goal.returns-in-Err
returns-in-Err c = rw (← setup-is c.check.ensures, c.in-Err.is) (meets refl)
