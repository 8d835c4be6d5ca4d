-- `forms::fixed`: a register is its two words.
use borrow.Author.Rules.{rules}
use Rattle.each.proofs.Words.{both_words}
use Rattle.lanes.specs.declared.Lane.TheVariants as lane
use Rattle.forms.proofs.fixed.Goals as goal

pub returns : goal.returns
returns c =
    let a = c.args in
    both_words (lane.Fixed a.op) a.w a.d a.s a.t _
    (search rules) (search rules) (search rules) (search rules) (search rules)
