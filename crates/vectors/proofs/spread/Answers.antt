-- `vectors::spread` meets its contract. Both words are the same.
use borrow.Author.Rules.{rules}
use Rattle.memory.proofs.Values.{is-register}
use Rattle.vectors.specs.Register.{filled}
use Rattle.vectors.proofs.Sizes.{shares}
use Rattle.vectors.proofs.Wholes.{whole_words}
use Rattle.vectors.proofs.spread.Goals as goal

pub returns : goal.returns
unfolding filled
returns c =
    let a = c.args in
    is-register (record { low = search rules; high = search rules })
    (whole_words (shares a.w) _ _ _ (rw (← c.low.ensures) c.spread_word-word.ensures) (rw (← c.low.ensures) c.spread_word-word.ensures))
