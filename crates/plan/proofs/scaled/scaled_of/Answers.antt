-- `plan::scaled::scaled_of`: by the operation.
use Rattle.plan.proofs.scaled.scaled_of.Goals as goal

pub returns-in-Lsa : goal.returns-in-Lsa
returns-in-Lsa c = rw c.in-Lsa.is c.lsa_of.ensures

pub returns-in-Dlsa : goal.returns-in-Dlsa
returns-in-Dlsa c = rw c.in-Dlsa.is c.dlsa_of.ensures
