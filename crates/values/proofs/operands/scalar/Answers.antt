-- `values::operands::scalar` meets its contract: each answer of the flag has its arm.
use Rattle.values.proofs.operands.scalar.Goals as goal

pub returns-then-flag_of : goal.returns-then-flag_of
returns-then-flag_of c = rw (← c.flag_of.ensures, c.if-flag_of.true) c.extended.ensures

pub returns-else-flag_of : goal.returns-else-flag_of
returns-else-flag_of c = rw (← c.flag_of.ensures, c.if-flag_of.false) c.general.ensures
