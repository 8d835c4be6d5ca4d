-- `reading::classes::branch_v` meets its contract.
use Rattle.reading.proofs.classes.branch_v.Goals as goal

pub returns : goal.returns
returns c = rw (c.offset.ensures, c.vt.ensures) at c.given.ensures
