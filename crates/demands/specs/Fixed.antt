-- Request 2/12 of an instruction: after a finished fixed-point multiply each lane of wd stands for the exact number
-- that the lanes give, cut and clamped once (`Stands`); and after MUL_Q and MULR_Q it is as near to the exact product
-- as the request says, and clamped exactly where both lanes are the lowest (`Multiplied`).
use Rattle.std.specs.Prelude.{ℕ}
use Rattle.isa.specs.declared.Fixed.{Fixed}
use Rattle.isa.specs.declared.Fixed.TheVariants.{MulQ, MaddQ, MsubQ, MulrQ, MaddrQ, MsubrQ}
use Rattle.isa.specs.declared.Instr.{Instr}
use Rattle.isa.specs.declared.Instr.TheVariants as instr
use Rattle.isa.specs.declared.Vreg.{Vreg}
use Rattle.isa.specs.declared.Width.{Width}
use Rattle.isa.specs.Widths.{bits}
use Rattle.fixed.specs.Stands.{uncut, Stands, Alone, fixed_in, Multiplied}
use Rattle.ops.specs.Places as place
use Rattle.demands.specs.Lanes.{lane_at, EachLane}

-- Table 3.27 of the manual: bits 25..22 under the minor opcode 011100
abbrev pub place_in : Fixed → ℕ
place_in MulQ = place.float 28 4
place_in MaddQ = place.float 28 5
place_in MsubQ = place.float 28 6
place_in MulrQ = place.float 28 12
place_in MaddrQ = place.float 28 13
place_in MsubrQ = place.float 28 14

abbrev pub multiplying : Fixed → Width → Vreg → Vreg → Vreg → Instr
multiplying o df wd ws wt = instr.Fixed (record { 0 = place_in o }) df wd ws wt

abbrev pub StandsLanes : Type 0
StandsLanes =
    (o : Fixed) (df : Width) (wd ws wt : Vreg)
    → EachLane (multiplying o df wd ws wt) df wd
    (λ m i r.
    Stands (bits df)
    (uncut o (bits df) (lane_at df m.vec wd i) (lane_at df m.vec ws i) (lane_at df m.vec wt i)) r)

abbrev pub MultipliesLanes : Type 0
MultipliesLanes =
    (o : Alone) (df : Width) (wd ws wt : Vreg)
    → EachLane (multiplying (fixed_in o) df wd ws wt) df wd
    (λ m i r. Multiplied o (bits df) (lane_at df m.vec ws i) (lane_at df m.vec wt i) r)
