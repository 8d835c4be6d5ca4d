-- `parallel_bits::places::bneg` meets its contract. The bit is the other after an exclusive or.
use borrow.Author.Rules.{rules}
use Rattle.vectors.proofs.Sizes.{shares}
use Rattle.parallel.proofs.Words.{own, same-lanes, xor-lanes}
use Rattle.parallel_bits.proofs.Amounts.{turn-lane}
use Rattle.parallel_bits.proofs.places.bneg.Goals as goal

pub returns : goal.returns
returns c = let a = c.args in let share = shares a.w in
    same-lanes share (xor-lanes share (own share a.s (search rules)) c.powers.ensures) (λ i l. turn-lane _ _)
