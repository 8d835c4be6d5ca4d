-- `reading::classes::scaled` meets its contract.
use Rattle.reading.proofs.classes.scaled.Goals as goal

pub returns : goal.returns
returns c = rw (
  c.gt.ensures,
  c.ga.ensures,
  c.gs.ensures,
) at c.given.ensures
