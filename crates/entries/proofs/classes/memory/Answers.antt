-- `entries::classes::memory` meets its contract.
use Rattle.entries.proofs.Given.{entry-given}
use Rattle.reading.proofs.Low.{low2}
use Rattle.entries.proofs.classes.memory.Goals as goal

pub returns : goal.returns
returns c = rw (entry-given, low2) (cc)
