-- `logic::logic` meets its contract. A register is its two words.
use borrow.Author.Rules.{rules}
use Rattle.logic.proofs.BitLaws.{both_bits}
use Rattle.logic.proofs.logic.Goals as goal

pub returns : goal.returns
returns c = let a = c.args in
    both_bits a.op a.d a.s a.t _ (search rules) (search rules) (search rules) (search rules) (search rules) (search rules)
