-- `parallel_bits::places::binsr` meets its contract. The low k + 1 bits are those of s.
use mathlib.Core.Path.{ap, ◌∙◌}
use Prim.Native.Nat.{◌+◌, ◌-◌, ◌%◌}
use lib.Bits.{bit_and}
use Rattle.isa.specs.Widths.{bits}
use Rattle.bits.specs.Places.{binsr}
use Rattle.vectors.specs.Register.{element}
use Rattle.vectors.proofs.Sizes.{shares}
use Rattle.parallel.proofs.Words.{same-lanes}
use Rattle.parallel_bits.proofs.Amounts.{up_to, over-lane}
use Rattle.parallel_bits.proofs.places.binsr.Goals as goal

pub returns : goal.returns
unfolding binsr
returns c =
    let a = c.args in
    let n = bits a.w in
    same-lanes (shares a.w) c.over.ensures
    (λ i l. ap (λ m. element n a.d i - bit_and (element n a.d i) m + bit_and (element n a.s i) m)
    (c.up_to.ensures.at i l ∙ up_to (element n a.t i % n))
    ∙ over-lane (element n a.s i) (element n a.d i) (element n a.t i % n + 1))
