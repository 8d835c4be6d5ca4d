-- Division by 0 of an instruction: its table's line, then lane by lane.
-- Assumes nothing.
use mathlib.Core.Path.{◌≡◌, refl, ap}
use Prim.Native.Nat.{ℕ}
use Rattle.isa.specs.declared.Arith.TheVariants as arith
use Rattle.isa.specs.declared.Three.TheVariants as three
use Rattle.isa.specs.declared.Vreg.{Vreg}
use Rattle.isa.specs.Widths.{bits}
use Rattle.element.proofs.Widths.{size}
use Rattle.forms.specs.Forms.{three_of}
use Rattle.lanes.specs.declared.Lane.{Lane}
use Rattle.lanes.specs.declared.Lane.TheVariants as lane
use Rattle.memory.specs.File.{register_at}
use Rattle.ops.specs.Meaning.{three_at}
use Rattle.products.specs.ByZero.{Division, div-s, div-u, mod-s, mod-u, product_in}
use Rattle.products.proofs.ByZero.{divides}
use Rattle.vectors.proofs.ElementLaws.{element-below}
use Rattle.demands.specs.ByZero.{place_in, dividing, DividesLanes}
use Rattle.demands.specs.Lanes.{lane_at}
use Rattle.demands.proofs.Lanes.{lane-after}

table-line : (o : Division) → three_at (place_in o) ≡ three.Arith (arith.Product (product_in o))
unfolding three_at
table-line div-s = refl
table-line div-u = refl
table-line mod-s = refl
table-line mod-u = refl

pub divides-lanes : DividesLanes
divides-lanes o df wd ws wt p e m w ok there reads done i h =
    let z = size df in
    let old : Vreg → ℕ = register_at m.vec in
    let l : Lane = lane.Arith (arith.Product (product_in o)) in
    rw (lane-after (dividing o df wd ws wt) wd _ p e m w ok there reads done refl refl l df (old wd) (old ws) (old wt)
    (ap (λ x. three_of x (bits df) (old wd) (old ws) (old wt)) (table-line o)) i h)
    (divides o (bits df) z.any z.few (lane_at df m.vec wd i) (lane_at df m.vec ws i) (lane_at df m.vec wt i)
    (element-below (bits df) (old ws) i))
