-- `text::put_hex` meets its contract.
use borrow.Author.Rules.{rules}
use Rattle.text.specs.Numerals.{hex}
use Rattle.text.proofs.put_hex.Goals as goal

pub put_numeral-requires : goal.put_numeral-requires
unfolding hex
put_numeral-requires c = search rules

pub returns : goal.returns
unfolding hex
returns c = search rules
