-- `writing::seal` meets its contract.
use Rattle.writing.proofs.seal.Goals as goal

pub returns-then-l : goal.returns-then-l
returns-then-l c = rw c.if-l.true c.packed.ensures
