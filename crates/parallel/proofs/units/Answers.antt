-- `parallel::units` meets its contract. At each width the literal is the number built of ones.
use mathlib.Core.Path.{refl}
use Prim.Native.Nat.{◌^◌, ◌<◌}
use native.Mathlib.Omega.{arith}
use Rattle.isa.specs.declared.Width.{Width}
use Rattle.isa.specs.Widths.{bits}
use Rattle.element.proofs.Widths.{size}
use Rattle.vectors.specs.Register.{build}
use Rattle.parallel.proofs.Named.{all-at}
use Rattle.parallel.proofs.units.Goals as goal

room : (w : Width) → 1 < 2 ^ bits w
room w = omega (arith, size w)

pub returns-in-B : goal.returns-in-B
unfolding build
returns-in-B c = all-at room c.in-B.is refl

pub returns-in-H : goal.returns-in-H
unfolding build
returns-in-H c = all-at room c.in-H.is refl

pub returns-in-W : goal.returns-in-W
unfolding build
returns-in-W c = all-at room c.in-W.is refl

pub returns-in-D : goal.returns-in-D
unfolding build
returns-in-D c = all-at room c.in-D.is refl
