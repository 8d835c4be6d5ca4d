-- `plan::early::branch_early`: by the mark.
use Rattle.plan.proofs.early.branch_early.Goals as goal

pub returns-in-Clear : goal.returns-in-Clear
returns-in-Clear c = rw c.in-Clear.is c.switched_early.ensures
