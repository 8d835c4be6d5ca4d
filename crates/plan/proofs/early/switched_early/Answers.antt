-- `plan::early::switched_early`: by the test.
use Rattle.plan.proofs.early.switched_early.Goals as goal

pub returns-else-on : goal.returns-else-on
returns-else-on c = rw c.if-on.false
