-- `writing::layouts::imm5_s` meets its contract.
use Rattle.writing.proofs.layouts.imm5_s.Goals as goal

pub returns : goal.returns
returns c = rw c.formed.ensures at c.five.ensures
