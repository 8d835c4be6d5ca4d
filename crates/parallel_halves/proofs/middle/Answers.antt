-- `parallel_halves::middle` meets its contract. At each width the literal is the number built of one element.
use mathlib.Core.Path.{refl}
use Rattle.vectors.specs.Register.{build}
use Rattle.parallel.proofs.Named.{all-at}
use Rattle.parallel_halves.proofs.Parts.{middle-room}
use Rattle.parallel_halves.proofs.middle.Goals as goal

pub returns-in-B : goal.returns-in-B
unfolding build
returns-in-B c = all-at middle-room c.in-B.is refl

pub returns-in-H : goal.returns-in-H
unfolding build
returns-in-H c = all-at middle-room c.in-H.is refl

pub returns-in-W : goal.returns-in-W
unfolding build
returns-in-W c = all-at middle-room c.in-W.is refl

pub returns-in-D : goal.returns-in-D
unfolding build
returns-in-D c = all-at middle-room c.in-D.is refl
