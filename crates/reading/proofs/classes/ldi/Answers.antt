-- `reading::classes::ldi` meets its contract.
use Rattle.reading.proofs.classes.ldi.Goals as goal

pub returns : goal.returns
returns c = rw (
  c.has.ensures,
  c.vd.ensures,
  c.df-df.ensures,
) at c.given.ensures
