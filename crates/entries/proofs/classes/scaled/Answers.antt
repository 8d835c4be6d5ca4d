-- `entries::classes::scaled` meets its contract.
use Rattle.entries.proofs.Given.{entry-given}
use Rattle.entries.proofs.classes.scaled.Goals as goal

pub returns : goal.returns
returns c = rw entry-given (cc)
