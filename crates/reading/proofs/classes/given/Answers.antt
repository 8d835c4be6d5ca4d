-- `reading::classes::given` meets its contract.
use Rattle.reading.proofs.classes.given.Goals as goal

pub returns-then-ok : goal.returns-then-ok
returns-then-ok c = rw c.if-ok.true

pub returns-else-ok : goal.returns-else-ok
returns-else-ok c = rw c.if-ok.false c.vacant.ensures
