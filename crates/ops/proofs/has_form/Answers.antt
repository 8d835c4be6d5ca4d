-- `ops::has_form` meets its contract.
use Rattle.ops.proofs.Packed.{formats-in}
use Rattle.ops.proofs.has_form.Goals as goal

pub returns : goal.returns
returns c = let k = c.args.k in rw (c.has.ensures, c.byte_at.ensures, formats-in k)
