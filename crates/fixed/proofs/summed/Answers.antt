-- `fixed::summed` meets its contract: the sum of views, none of whose parts has more than 64 bits.
use native.Mathlib.Omega.{arith}
use lib.Pow.{pow_mono}
use Rattle.isa.specs.Widths.{bits}
use Rattle.element.proofs.Widths.{size}
use Rattle.fixed.proofs.Forms.{cut-form}
use Rattle.fixed.proofs.Room.{wide, factor-most, product-room, quotient-room}
use Rattle.fixed.proofs.summed.Goals as goal

pub overflow_mul-q : goal.overflow_mul-q
overflow_mul-q c =
    omega (
      arith,
      rw (← c.flip-a.ensures.is, ← c.factor-b.ensures) at
          (product-room (bits c.args.w) (size c.args.w) c.requires.2 c.args.rounded c.args.minus c.requires.1.first c.requires.1.second),
    )

pub overflow_add-q-2 : goal.overflow_add-q-2
overflow_add-q-2 c =
    let start = c in
    let w = start.args.w in
    omega (
      arith,
      rw (← c.half-one.ensures) at
          (quotient-room (bits w) (size w) start.requires.2 (wide w) (rw (← c.flip-a.ensures.is, ← c.factor-b.ensures, ← c.rounding.ensures) at (product-room (bits c.args.w) (size c.args.w) c.requires.2 c.args.rounded c.args.minus c.requires.1.first c.requires.1.second))),
    )

pub overflow_add-a : goal.overflow_add-a
overflow_add-a c =
    let start = c in
    let a = start.args in
    omega (
      arith,
      c.flip-a.ensures,
      c.factor-b.ensures,
      factor-most (bits a.w) (size a.w) a.minus start.requires.1.second,
      pow_mono {i = bits a.w} {j = 32} start.requires.2,
    )

pub returns : goal.returns
returns c =
    let start = c in
    let a = start.args in
    cc (cut-form (bits a.w) (size a.w) start.requires.1 start.requires.0 a.rounded a.minus)

pub overflow_add-q : goal.overflow_add-q
overflow_add-q c = omega (arith, (rw (← c.flip-a.ensures.is, ← c.factor-b.ensures, ← c.rounding.ensures) at (product-room (bits c.args.w) (size c.args.w) c.requires.2 c.args.rounded c.args.minus c.requires.1.first c.requires.1.second)))
