-- `plan::moves::copied`: by the operation.
use Rattle.plan.proofs.moves.copied.Goals as goal

pub returns-in-CopyS : goal.returns-in-CopyS
returns-in-CopyS c = rw c.in-CopyS.is c.copy_s.ensures

pub returns-in-CopyU : goal.returns-in-CopyU
returns-in-CopyU c = rw c.in-CopyU.is c.copy_u.ensures
