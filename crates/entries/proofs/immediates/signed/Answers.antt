-- `entries::immediates::signed` meets its contract.
use Rattle.std.proofs.Common.{rules}
use Rattle.permute.proofs.Extensions.{wrap-narrow}
use Rattle.entries.proofs.immediates.signed.Goals as goal

pub returns : goal.returns
returns c = (rw c.extend.ensures (wrap-narrow 32 32 _), search rules)
