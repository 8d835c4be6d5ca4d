-- `writing::layouts::branch` meets its contract.
use Rattle.writing.proofs.layouts.branch.Goals as goal

pub returns : goal.returns
returns c = rw (c.width_code.ensures.0, c.formed.ensures) at c.jump.ensures
