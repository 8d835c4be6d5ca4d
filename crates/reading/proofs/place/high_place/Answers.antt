-- `reading::place::high_place` meets its contract.
use Rattle.reading.proofs.Low.{low6}
use borrow.Author.Tests.{eq-eqb, ne_eqb, lt-ltb, le-ltb}
use native.Mathlib.Omega.{arith}
use Rattle.reading.proofs.place.high_place.Goals as goal

pub returns-then-m-lt26 : goal.returns-then-m-lt26
returns-then-m-lt26 c = (
  rw (low6 _, lt-ltb _ _ c.if-m-lt26.true) c.elm_place.ensures.0,
  omega (
    arith,
    c.elm_place.ensures.1,
  ),
)

pub returns-then-m-lt29 : goal.returns-then-m-lt29
returns-then-m-lt29 c = (rw (low6 _, le-ltb _ _ c.if-m-lt26.false, lt-ltb _ _ c.if-m-lt29.true) (omega arith), omega arith)

pub returns-then-m-eq30 : goal.returns-then-m-eq30
returns-then-m-eq30 c =
    let a = le-ltb _ _ c.if-m-lt26.false in
    let b = le-ltb _ _ c.if-m-lt29.false in (
      rw (low6 _, a, b, eq-eqb _ _ c.if-m-eq30.true) c.vec_place.ensures.0,
      omega (
        arith,
        c.vec_place.ensures.1,
      ),
    )

pub returns-then-m-lt32 : goal.returns-then-m-lt32
returns-then-m-lt32 c =
    let a = le-ltb _ _ c.if-m-lt26.false in
    let b = le-ltb _ _ c.if-m-lt29.false in
    (rw (low6 _, a, b, ne_eqb _ _ c.if-m-eq30.false, lt-ltb _ _ c.if-m-lt32.true), omega arith)

pub returns-then-m-lt40 : goal.returns-then-m-lt40
returns-then-m-lt40 c =
    let a = le-ltb _ _ c.if-m-lt26.false in
    let b = le-ltb _ _ c.if-m-lt29.false in
    let d = ne_eqb _ _ c.if-m-eq30.false in
    (rw (low6 _, a, b, d, le-ltb _ _ c.if-m-lt32.false, lt-ltb _ _ c.if-m-lt40.true) (omega arith), omega arith)

pub returns : goal.returns
returns c =
    let a = le-ltb _ _ c.if-m-lt26.false in
    let b = le-ltb _ _ c.if-m-lt29.false in
    let d = ne_eqb _ _ c.if-m-eq30.false in
    (rw (low6 _, a, b, d, le-ltb _ _ c.if-m-lt32.false, le-ltb _ _ c.if-m-lt40.false), omega arith)
