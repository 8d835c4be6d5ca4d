-- `plan::branch::mark_of`: by the test.
use Rattle.plan.proofs.branch.mark_of.Goals as goal

pub returns-then-taken : goal.returns-then-taken
returns-then-taken c = rw c.if-taken.true
