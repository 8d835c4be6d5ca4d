-- `values::others::multiplied` meets its contract. A register is its two words.
use borrow.Author.Rules.{rules}
use Rattle.each.proofs.Words.{both_words}
use Rattle.lanes.specs.declared.Lane.TheVariants as lane
use Rattle.values.proofs.Arms.{words_of}
use Rattle.values.proofs.others.multiplied.Goals as goal

pub returns : goal.returns
returns c = let d = c.dest-d in let s = c.source-s in let t = c.last-t in
    rw (← c.narrow-v.ensures.0, ← d.ensures.exact, ← s.ensures.exact, ← t.ensures.exact)
    (both_words (lane.Fixed c.args.op) c.narrow-v.result d.result s.result t.result _
    (words_of d.ensures) (words_of s.ensures) (words_of t.ensures) (search rules) (search rules))
