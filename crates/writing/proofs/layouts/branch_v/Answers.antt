-- `writing::layouts::branch_v` meets its contract.
use Rattle.writing.proofs.layouts.branch_v.Goals as goal

pub returns : goal.returns
returns c = rw c.of_class.ensures at c.jump.ensures
