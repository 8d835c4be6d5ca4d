-- `ops::byte_at` meets its contract: a column of a row.
use Rattle.ops.proofs.Packed.{column}
use Rattle.ops.proofs.byte_at.Goals as goal

pub returns : goal.returns
returns c = rw c.row_word.ensures (column c.args.k)
