-- `each::each` meets its contract. A register is its two words.
use borrow.Author.Rules.{rules}
use Rattle.each.proofs.Words.{both_words}
use Rattle.each.proofs.each.Goals as goal

pub returns : goal.returns
returns c =
    let a = c.args in
    both_words a.op a.w a.d a.s a.t _
    (search rules) (search rules) (search rules) (search rules) (search rules)
