-- `entries::classes::ldi` meets its contract.
use Rattle.entries.proofs.Given.{entry-given}
use Rattle.entries.proofs.classes.ldi.Goals as goal

pub returns : goal.returns
returns c = rw entry-given (cc)
