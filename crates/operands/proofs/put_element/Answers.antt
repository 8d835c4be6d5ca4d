-- `operands::put_element` meets its contract: four texts, one behind the other.
use Rattle.text.proofs.Puts.{puts_four}
use Rattle.operands.proofs.put_element.Goals as goal

pub returns : goal.returns
returns c = rw (← c.from.ensures)
    (puts_four c.put_vector-open.ensures c.put_byte-index.ensures c.put_decimal-close.ensures c.put_byte.ensures)
