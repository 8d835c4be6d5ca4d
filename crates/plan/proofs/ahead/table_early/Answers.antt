-- `plan::ahead::table_early`: by the operation.
use Rattle.plan.proofs.ahead.table_early.Goals as goal

pub returns-in-St : goal.returns-in-St
returns-in-St c = rw c.in-St.is
