-- `writing::layouts::bit` meets its contract.
use Rattle.writing.proofs.layouts.bit.Goals as goal

pub returns : goal.returns
returns c = rw (
  c.bit_code.ensures,
  c.bit_size.ensures,
  c.formed.ensures,
)
