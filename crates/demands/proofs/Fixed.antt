-- Fixed-point multiplies of an instruction: its table's line, then lane by lane. Assumes nothing.
use mathlib.Core.Path.{◌≡◌, refl, ap}
use Prim.Native.Nat.{ℕ}
use Rattle.isa.specs.declared.Fixed.{Fixed}
use Rattle.isa.specs.declared.Fixed.TheVariants.{MulQ, MaddQ, MsubQ, MulrQ, MaddrQ, MsubrQ}
use Rattle.isa.specs.declared.Vreg.{Vreg}
use Rattle.isa.specs.declared.Width.{Width}
use Rattle.isa.specs.Widths.{bits}
use Rattle.element.proofs.Widths.{size}
use Rattle.fixed.specs.Fixed.{fixed_of}
use Rattle.fixed.specs.Stands.{fixed_in}
use Rattle.fixed.proofs.Multiplied.{multiplies}
use Rattle.fixed.proofs.Room.{wide}
use Rattle.fixed.proofs.Stands.{all-stand}
use Rattle.forms.specs.Forms as forms
use Rattle.lanes.specs.declared.Lane.TheVariants as lane
use Rattle.memory.specs.File.{register_at}
use Rattle.ops.specs.Meaning.{fixed_at}
use Rattle.vectors.proofs.ElementLaws.{element-below}
use Rattle.demands.specs.Fixed.{place_in, multiplying, StandsLanes, MultipliesLanes}
use Rattle.demands.specs.Lanes.{lane_at, EachLane}
use Rattle.demands.proofs.Lanes.{lane-after}

table-line : (o : Fixed) → fixed_at (place_in o) ≡ o
unfolding fixed_at
table-line MulQ = refl
table-line MaddQ = refl
table-line MsubQ = refl
table-line MulrQ = refl
table-line MaddrQ = refl
table-line MsubrQ = refl

-- each lane of wd is what the operation makes of the lanes
lanes-are : (o : Fixed) (df : Width) (wd ws wt : Vreg) → EachLane (multiplying o df wd ws wt) df wd
    (λ m i r. r ≡ fixed_of o (bits df) (lane_at df m.vec wd i) (lane_at df m.vec ws i) (lane_at df m.vec wt i))
lanes-are o df wd ws wt p e m w ok there reads done i h =
    let old : Vreg → ℕ = register_at m.vec in
    lane-after (multiplying o df wd ws wt) wd _ p e m w ok there reads done refl refl (lane.Fixed o) df (old wd)
    (old ws) (old wt) (ap (λ x. forms.fixed_of x (bits df) (old wd) (old ws) (old wt)) (table-line o)) i h

pub stands-lanes : StandsLanes
stands-lanes o df wd ws wt p e m w ok there reads done i h =
    let z = size df in
    rw (lanes-are o df wd ws wt p e m w ok there reads done i h) (all-stand o (bits df) z.any z.few _ _ _)

pub multiplies-lanes : MultipliesLanes
multiplies-lanes o df wd ws wt p e m w ok there reads done i h =
    rw (lanes-are (fixed_in o) df wd ws wt p e m w ok there reads done i h)
    (multiplies o (bits df) (wide df) (size df).few (lane_at df m.vec wd i) _ _
    (element-below (bits df) (register_at m.vec ws) i) (element-below (bits df) (register_at m.vec wt) i))
