-- `entries::filled::entry_at` meets its contract.
use Rattle.std.proofs.Common.{rules}
use Rattle.entries.proofs.filled.entry_at.Goals as goal

pub returns : goal.returns
returns c = (rw (c.entry_of.ensures, c.four.ensures), rw (← c.four.ensures) (search rules))
