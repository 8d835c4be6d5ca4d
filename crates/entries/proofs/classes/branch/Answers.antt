-- `entries::classes::branch` meets its contract.
use Rattle.entries.proofs.Given.{entry-given}
use Rattle.entries.proofs.Low.{low16}
use Rattle.entries.proofs.classes.branch.Goals as goal

pub returns : goal.returns
returns c = rw (entry-given, low16) (cc)
