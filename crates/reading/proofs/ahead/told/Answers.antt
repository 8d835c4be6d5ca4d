-- `reading::ahead::told` meets its contract.
use Rattle.reading.proofs.ahead.told.Goals as goal

pub returns-then-ok : goal.returns-then-ok
returns-then-ok c = rw c.if-ok.true

pub returns-else-ok : goal.returns-else-ok
returns-else-ok c = rw c.if-ok.false (cc)
