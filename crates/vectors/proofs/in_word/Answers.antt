-- `vectors::in_word` meets its contract. A shift and a remainder.
use mathlib.Core.Path.{◌≡◌, refl}
use native.Mathlib.Omega.{arith}
use Rattle.isa.specs.Widths.{bits}
use Rattle.vectors.proofs.ElementLaws.{element-below}
use Rattle.vectors.specs.Register.{element}
use Rattle.vectors.proofs.in_word.Goals as goal

pub returns : goal.returns
unfolding element
returns c = let a = c.args in let e : c.low.result ≡ element (bits a.w) a.x a.i = rw (c.low.ensures, c.count.ensures) refl in
    record { is = e; below = omega (arith, element-below (bits a.w) a.x a.i) }
