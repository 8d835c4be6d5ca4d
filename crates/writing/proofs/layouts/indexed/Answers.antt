-- `writing::layouts::indexed` meets its contract.
use Rattle.writing.proofs.layouts.indexed.Goals as goal

pub returns : goal.returns
returns c = rw c.formed.ensures at c.five.ensures
