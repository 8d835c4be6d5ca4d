-- `reading::place::i8_place` meets its contract.
use Rattle.reading.proofs.Low.{low6}
use borrow.Author.Tests.{lt-ltb, le-ltb}
use native.Mathlib.Omega.{arith}
use Rattle.reading.proofs.place.i8_place.Goals as goal

pub returns-then-m-lt2 : goal.returns-then-m-lt2
returns-then-m-lt2 c = (rw (low6 _, lt-ltb _ _ c.if-m-lt2.true) (omega arith), omega arith)

pub returns : goal.returns
returns c = (rw (low6 _, le-ltb _ _ c.if-m-lt2.false), omega arith)
