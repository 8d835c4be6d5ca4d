-- `listing::put_number` meets its contract.
use Rattle.text.proofs.Puts.{puts_then, room-left, room-right}
use Rattle.listing.proofs.put_number.Goals as goal

pub put_hex-next-requires : goal.put_hex-next-requires
put_hex-next-requires c = room-left c.args.behind.now c.requires

pub put_text-requires : goal.put_text-requires
put_text-requires c = room-right c.put_hex-next.ensures
    c.requires

pub returns : goal.returns
returns c = puts_then c.put_hex-next.ensures
    c.put_text.ensures
