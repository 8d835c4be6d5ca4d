-- `writing::layouts::three` meets its contract.
use Rattle.writing.proofs.layouts.three.Goals as goal

pub returns : goal.returns
returns c = rw c.formed.ensures at c.five.ensures
