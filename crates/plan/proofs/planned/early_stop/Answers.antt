-- `plan::planned::early_stop`: by the kind.
use Rattle.plan.proofs.planned.early_stop.Goals as goal

pub returns-in-Branching : goal.returns-in-Branching
returns-in-Branching c = rw c.in-Branching.is c.branch_early.ensures

pub returns-in-Switched : goal.returns-in-Switched
returns-in-Switched c = rw c.in-Switched.is c.switched_early.ensures
