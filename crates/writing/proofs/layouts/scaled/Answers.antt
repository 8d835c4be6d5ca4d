-- `writing::layouts::scaled` meets its contract.
use Rattle.writing.proofs.layouts.scaled.Goals as goal

pub returns : goal.returns
returns c = rw c.of_class.ensures
