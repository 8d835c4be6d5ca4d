-- `writing::layouts::fixed` meets its contract.
use Rattle.writing.proofs.layouts.fixed.Goals as goal

pub returns : goal.returns
returns c = rw (c.hw_code.ensures, c.formed.ensures)
