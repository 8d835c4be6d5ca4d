-- `element::flip` meets its contract. The test says on which side of the top bit x lies.
use Rattle.element.proofs.Views.{flip_down, flip_up}
use Rattle.element.proofs.Widths.{size}
use Rattle.isa.specs.Widths.{bits}
use native.Mathlib.Omega.{arith}
use Rattle.element.proofs.flip.Goals as goal

pub returns-then-x-h : goal.returns-then-x-h
returns-then-x-h c = let a = c.args in
    let e = flip_up (bits a.w) a.x (omega arith) in
    record { is = omega arith; below = omega (arith, size a.w) }

pub returns-else-x-h : goal.returns-else-x-h
returns-else-x-h c = let a = c.args in
    let e = flip_down (bits a.w) a.x (omega arith) in
    record { is = omega arith; below = omega arith }
