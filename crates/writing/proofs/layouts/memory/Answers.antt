-- `writing::layouts::memory` meets its contract.
use Rattle.writing.proofs.layouts.memory.Goals as goal

pub returns : goal.returns
returns c = rw (c.width_code.ensures.0, c.formed.ensures)
