-- `values::others::counted` meets its contract. A register is its two words.
use borrow.Author.Rules.{rules}
use Rattle.each.proofs.Words.{both_words}
use Rattle.lanes.specs.declared.Lane.TheVariants as lane
use Rattle.values.proofs.others.counted.Goals as goal

pub returns : goal.returns
returns c = let a = c.args in
    both_words (lane.Count a.op) a.w a.s a.s a.s _
    (search rules) (search rules) (search rules) (search rules) (search rules)
