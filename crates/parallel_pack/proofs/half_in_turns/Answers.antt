-- `parallel_pack::half_in_turns` meets its contract. The elements of half a word of both, in turns.
use mathlib.Core.Path.{◌∙◌, ap₂}
use mathlib.Core.Bool.{cond}
use Prim.Native.Nat.{◌*◌, ◌/◌, ◌%◌, ◌^◌}
use native.Mathlib.Omega.{arith}
use lib.Dec.{eqb}
use Rattle.isa.specs.Widths.{bits}
use Rattle.vectors.proofs.ElementLaws.{element-below}
use Rattle.parallel.proofs.Words.{same-lanes}
use Rattle.parallel_pack.proofs.Places.{doubles, half_at}
use Rattle.parallel_pack.proofs.half_in_turns.Goals as goal

pub interleaved-requires : goal.interleaved-requires
interleaved-requires c =
    let top = c in
    let a = top.args in
    let n = bits a.w in (
      top.requires.0,
      (λ j l. rw (c.scattered.ensures.at j l) (element-below n (a.t / 2 ^ (32 * a.h) % 2 ^ 32) j)),
      (λ j l. rw (c.scattered-2.ensures.at j l) (element-below n (a.s / 2 ^ (32 * a.h) % 2 ^ 32) j)),
    )

pub returns : goal.returns
returns c =
    let top = c in
    let a = top.args in
    let n = bits a.w in
    let d = doubles a.w top.requires.0 in
    same-lanes d.one c.interleaved.ensures
    (λ i l. ap₂ (cond (eqb (i % 2) 0))
    (c.scattered.ensures.at (i / 2) (omega (arith, d.count))
    ∙ half_at d a.t a.h (i / 2) (omega (arith, d.half)))
    (c.scattered-2.ensures.at (i / 2) (omega (arith, d.count))
    ∙ half_at d a.s a.h (i / 2) (omega (arith, d.half))))
