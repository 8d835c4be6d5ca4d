-- `ops::byte_beside` meets its contract: a column of a row.
use Rattle.ops.proofs.Packed.{column}
use Rattle.ops.proofs.byte_beside.Goals as goal

pub returns : goal.returns
returns c = rw c.row_beside.ensures (column c.args.k)
