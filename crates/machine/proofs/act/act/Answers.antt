-- `machine::act::act`: the plan, and what is made of it.
use Rattle.plan.proofs.PlanLaws.{planned-there}
use Rattle.state.specs.Machine.{env, machine}
use Rattle.machine.proofs.act.act.Goals as goal

pub conclude-requires : goal.conclude-requires
conclude-requires c =
    let a = c.args in
    let e = env a.board a.table.now in
    let m = machine a.vectors.now a.generals.now a.work.now a.c in
    rw c.plan_of-p.ensures
    (planned-there e m a.i c.requires)

pub returns : goal.returns
returns c =
    let concluded = c in
    rw (← concluded.plan_of-p.ensures) concluded.conclude.ensures
