-- `operands::put_operands` meets its contract: four texts, one behind the other.
use Rattle.text.proofs.Puts.{puts_four}
use Rattle.operands.proofs.put_operands.Goals as goal

pub returns : goal.returns
returns c = puts_four c.put_operand-second.ensures c.put_next-third.ensures c.put_next-fourth.ensures c.put_next.ensures
