-- `listing::put_reason` meets its contract.
use Rattle.listing.proofs.put_reason.Goals as goal
use Rattle.text.proofs.Puts.{puts_then}

pub returns : goal.returns
returns c = rw c.from.ensures at (puts_then c.put_text-next.ensures c.put_decimal.ensures)
