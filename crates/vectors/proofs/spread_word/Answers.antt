-- `vectors::spread_word` meets its contract. At each width the product with ones at the elements' places is the sum of the elements.
use native.Mathlib.Omega.{arith}
use Rattle.vectors.specs.Register.{build}
use Rattle.vectors.proofs.spread_word.Goals as goal

pub returns-in-B : goal.returns-in-B
unfolding build
returns-in-B c = rw c.in-B.is (omega arith)

pub returns-in-H : goal.returns-in-H
unfolding build
returns-in-H c = rw c.in-H.is (omega arith)

pub returns-in-W : goal.returns-in-W
unfolding build
returns-in-W c = rw c.in-W.is (omega arith)

pub returns-in-D : goal.returns-in-D
unfolding build
returns-in-D c = rw c.in-D.is (omega arith)
