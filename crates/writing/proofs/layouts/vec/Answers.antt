-- `writing::layouts::vec` meets its contract.
use Rattle.writing.proofs.layouts.vec.Goals as goal

pub returns : goal.returns
returns c = rw c.of_class.ensures
