-- `values::operands::inserted` meets its contract: each answer of the flag has its arm.
use Rattle.values.proofs.operands.inserted.Goals as goal

pub returns-then-flag_of : goal.returns-then-flag_of
returns-then-flag_of c = rw (← c.flag_of.ensures, c.if-flag_of.true, ← c.width_of.ensures)
    c.element_at.ensures.is

pub returns-else-flag_of : goal.returns-else-flag_of
returns-else-flag_of c = rw (
  ← c.flag_of.ensures,
  c.if-flag_of.false,
  ← c.source_of.ensures.0,
)
    c.general.ensures
