-- `parallel_bits::places::bset` meets its contract. The bit is there after an or.
use borrow.Author.Rules.{rules}
use Rattle.vectors.proofs.Sizes.{shares}
use Rattle.parallel.proofs.Words.{own, same-lanes, or-lanes}
use Rattle.parallel_bits.proofs.Amounts.{set-lane}
use Rattle.parallel_bits.proofs.places.bset.Goals as goal

pub returns : goal.returns
returns c = let a = c.args in let share = shares a.w in
    same-lanes share (or-lanes share (own share a.s (search rules)) c.powers.ensures) (λ i l. set-lane _ _)
