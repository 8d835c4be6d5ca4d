-- `reading::place::msa_place` meets its contract.
use Prim.Native.Nat.{◌%◌}
use Rattle.reading.proofs.Low.{low6}
use borrow.Author.Tests.{lt-ltb, le-ltb}
use native.Mathlib.Omega.{arith}
use Rattle.reading.proofs.place.msa_place.Goals as goal

pub returns-then-m-lt3 : goal.returns-then-m-lt3
returns-then-m-lt3 c = (
  rw (low6 _, lt-ltb _ _ c.if-m-lt3.true) (rw (low6 _) at c.i8_place.ensures.0),
  omega arith,
)

pub returns-then-m-lt25 : goal.returns-then-m-lt25
returns-then-m-lt25 c = (
  rw (
    low6 _,
    le-ltb (c.args.w % 64) 2 (omega arith),
    le-ltb _ _ c.if-m-lt3.false,
    lt-ltb _ _ c.if-m-lt25.true,
  ) (omega arith),
  omega arith,
)

pub returns : goal.returns
returns c = (
  rw (
    low6 _,
    le-ltb (c.args.w % 64) 2 (omega arith),
    le-ltb _ _ c.if-m-lt3.false,
    le-ltb _ _ c.if-m-lt25.false,
  ) (rw (low6 _) at c.high_place.ensures.0),
  c.high_place.ensures.1,
)
