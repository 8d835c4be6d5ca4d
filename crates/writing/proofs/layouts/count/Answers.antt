-- `writing::layouts::count` meets its contract.
use Rattle.writing.proofs.layouts.count.Goals as goal

pub returns : goal.returns
returns c = rw c.formed.ensures at c.two.ensures
