-- `entry::board_of` meets its contract.
use Rattle.entry.proofs.board_of.Goals as goal

pub returns : goal.returns
returns c = rw c.order_of-order.ensures
