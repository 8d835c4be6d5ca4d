-- `reading::ahead::memory_ahead` meets its contract.
use Rattle.reading.proofs.Low.{low2}
use Rattle.reading.proofs.Told.{told-given}
use Rattle.reading.proofs.ahead.memory_ahead.Goals as goal

pub returns : goal.returns
returns c = let e = c.width_at-df.ensures in
    let ok = rw e at c.has.ensures in
    rw (low2 _) (told-given _ _ ok (rw (c.gs.ensures, e) at c.told.ensures))
