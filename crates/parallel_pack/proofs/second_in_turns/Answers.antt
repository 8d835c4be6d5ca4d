-- `parallel_pack::second_in_turns` meets its contract. The even elements of both, in turns.
use mathlib.Core.Path.{◌∙◌, ap₂}
use mathlib.Core.Bool.{cond}
use Prim.Native.Nat.{◌*◌, ◌/◌, ◌%◌, ◌^◌}
use native.Mathlib.Omega.{arith}
use lib.Dec.{eqb}
use Rattle.isa.specs.Widths.{bits}
use Rattle.vectors.proofs.ElementLaws.{element-below}
use Rattle.parallel.proofs.Words.{same-lanes}
use Rattle.parallel_pack.proofs.Places.{doubles, element-shift}
use Rattle.parallel_pack.proofs.second_in_turns.Goals as goal

pub interleaved-requires : goal.interleaved-requires
interleaved-requires c =
    let top = c in
    let a = top.args in
    let n = bits a.w in
    let k = c.count.result * a.o in (
      top.requires.0,
      (λ j l. omega (arith, c.evens.ensures.at j l, element-below n (a.t / 2 ^ k) (j * 2))),
      (λ j l. omega (arith, c.evens-2.ensures.at j l, element-below n (a.s / 2 ^ k) (j * 2))),
    )

pub returns : goal.returns
returns c =
    let top = c in
    let a = top.args in
    let n = bits a.w in
    let d = doubles a.w top.requires.0 in
    let counted = c.count.ensures in
    let first = rw counted at c.evens.ensures in
    let second = rw counted at c.evens-2.ensures in
    same-lanes d.one c.interleaved.ensures
    (λ i l. ap₂ (cond (eqb (i % 2) 0))
    (first.at (i / 2) (omega (arith, d.count)) ∙ element-shift n a.t a.o (i / 2 * 2))
    (second.at (i / 2) (omega (arith, d.count)) ∙ element-shift n a.s a.o (i / 2 * 2)))
