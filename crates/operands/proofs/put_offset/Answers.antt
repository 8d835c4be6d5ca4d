-- `operands::put_offset` meets its contract: four texts, one behind the other.
use Rattle.text.proofs.Puts.{puts_four}
use Rattle.operands.proofs.put_offset.Goals as goal

pub returns : goal.returns
returns c = puts_four c.put_number-open.ensures c.put_byte-base.ensures c.put_register-close.ensures c.put_byte.ensures
