-- `machine::ahead::end_of`: each way out puts what the calls answered into the definition.
use Rattle.plan.proofs.AheadLaws.{read-within}
use Rattle.state.proofs.Said.{fetched-is}
use Rattle.std.proofs.Common.{rules}
use Rattle.machine.proofs.ahead.end_of.Goals as goal

pub returns-in_default : goal.returns-in_default
returns-in_default c = rw (← fetched-is c.word_at.ensures, c.in_default.is)

pub stop_ahead-requires : goal.stop_ahead-requires
stop_ahead-requires c = rw c.ahead_of.ensures (read-within _ (search rules))

pub returns : goal.returns
returns c = rw (← fetched-is c.word_at.ensures, c.in-Some.is, ← c.ahead_of.ensures) c.stop_ahead.ensures
