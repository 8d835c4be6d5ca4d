-- `writing::layouts::imm8` meets its contract.
use Rattle.writing.proofs.layouts.imm8.Goals as goal

pub returns : goal.returns
returns c = rw c.of_class.ensures at c.eight.ensures
