-- `text::put_decimal` meets its contract.
use borrow.Author.Rules.{rules}
use Rattle.text.specs.Numerals.{decimal}
use Rattle.text.proofs.put_decimal.Goals as goal

pub put_numeral-requires : goal.put_numeral-requires
unfolding decimal
put_numeral-requires c = search rules

pub returns : goal.returns
unfolding decimal
returns c = search rules
