-- `element::magnitude` meets its contract. The test says whether x is negative.
use Rattle.element.proofs.Views.{magnitude-high, magnitude-low}
use Rattle.element.proofs.Widths.{size}
use Rattle.isa.specs.Widths.{bits}
use mathlib.Core.Path.{sym}
use native.Mathlib.Omega.{arith}
use Rattle.element.proofs.magnitude.Goals as goal

pub returns-then-x-half : goal.returns-then-x-half
returns-then-x-half c = let a = c.args in
    let e = magnitude-low (bits a.w) (size a.w) {x = a.x} (omega arith) in
    record { is = sym e; below = omega arith }

pub returns-else-x-half : goal.returns-else-x-half
returns-else-x-half c = let a = c.args in
    let e = magnitude-high (bits a.w) (size a.w) {x = a.x} (omega arith) (omega arith) in
    record { is = omega arith; below = omega (arith, size a.w) }
