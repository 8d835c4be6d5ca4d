-- `plan::ahead::stop_ahead`: by what the word says; a call's answer goes into the definition.
use Rattle.plan.proofs.ahead.stop_ahead.Goals as goal

pub address-x-requires : goal.address-x-requires
address-x-requires c = rw c.in-Memory.is at c.requires

pub returns-in-Branch : goal.returns-in-Branch
returns-in-Branch c = rw c.in-Branch.is c.branch_early.ensures

pub returns-in-Vector : goal.returns-in-Vector
returns-in-Vector c = rw c.in-Vector.is c.switched_early.ensures
