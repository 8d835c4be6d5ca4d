-- `machine::why::cause_of`: by the outcome.
use Rattle.machine.proofs.why.cause_of.Goals as goal

pub returns-in-Ok : goal.returns-in-Ok
returns-in-Ok c = rw c.in-Ok.is

pub returns-in-Err : goal.returns-in-Err
returns-in-Err c = rw (c.in-Err.is, c.word_of.ensures, c.fact_of.ensures)
