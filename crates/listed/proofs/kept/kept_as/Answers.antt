-- `listed::kept::kept_as` meets its contract.
use Rattle.std.proofs.Common.{le-ltb, lt-ltb}
use Rattle.listed.proofs.kept.kept_as.Goals as goal

pub returns-then-c-lt109 : goal.returns-then-c-lt109
returns-then-c-lt109 c = rw (← c.code_of-c.ensures.0, lt-ltb _ 109 c.if-c-lt109.true)

pub returns-else-c-lt109 : goal.returns-else-c-lt109
returns-else-c-lt109 c = rw (← c.code_of-c.ensures.0, le-ltb _ 109 c.if-c-lt109.false, c.unread_at.ensures)
