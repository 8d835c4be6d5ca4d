-- `plan::moves::access`: by the operation.
use Rattle.plan.proofs.moves.access.Goals as goal

pub returns-in-Ld : goal.returns-in-Ld
returns-in-Ld c = rw c.in-Ld.is c.load.ensures

pub returns-in-St : goal.returns-in-St
returns-in-St c = rw c.in-St.is c.store.ensures
