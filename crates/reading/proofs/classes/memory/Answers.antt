-- `reading::classes::memory` meets its contract.
use Rattle.reading.proofs.Low.{low2}
use Rattle.reading.proofs.classes.memory.Goals as goal

pub returns : goal.returns
returns c = rw (low2 _) (rw (
  c.has.ensures,
  c.gs.ensures,
  c.vd.ensures,
  c.width_at-df.ensures,
) at c.given.ensures)
