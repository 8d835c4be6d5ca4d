-- `entries::forms::given` meets its contract.
use Rattle.entries.proofs.forms.given.Goals as goal

pub returns-else-ok : goal.returns-else-ok
returns-else-ok c = rw c.if-ok.false c.vacant.ensures
