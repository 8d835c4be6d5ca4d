-- `parallel_bits::kept` meets its contract. The largest element, shifted.
use native.Mathlib.Omega.{arith}
use Rattle.isa.specs.Widths.{bits}
use Rattle.vectors.proofs.Sizes.{shares}
use Rattle.parallel.proofs.Words.{same-lanes}
use Rattle.parallel_bits.proofs.Amounts.{ones_shr}
use Rattle.parallel_bits.proofs.kept.Goals as goal

pub returns : goal.returns
returns c =
    let a = c.args in
    same-lanes (shares a.w) c.spread_word.ensures
    (λ i l. rw c.ones.ensures (ones_shr (bits a.w) a.k (omega (arith, c.requires))))
