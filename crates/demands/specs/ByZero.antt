-- Request 1/12 of an instruction: after a finished DIV_S, DIV_U, MOD_S or MOD_U of any format, each lane of wd whose
-- divisor is 0 holds what the request says of it, and each other lane what document 01 says.
use Rattle.std.specs.Prelude.{ℕ}
use Rattle.isa.specs.declared.Instr.{Instr}
use Rattle.isa.specs.declared.Instr.TheVariants as instr
use Rattle.isa.specs.declared.Vreg.{Vreg}
use Rattle.isa.specs.declared.Width.{Width}
use Rattle.isa.specs.Widths.{bits}
use Rattle.ops.specs.Places as place
use Rattle.products.specs.ByZero.{Division, div-s, div-u, mod-s, mod-u, Divided}
use Rattle.demands.specs.Lanes.{lane_at, EachLane}

-- Table 3.25 of the manual: bits 25..23 under the minor opcode 010010
abbrev pub place_in : Division → ℕ
place_in div-s = place.minor 18 4
place_in div-u = place.minor 18 5
place_in mod-s = place.minor 18 6
place_in mod-u = place.minor 18 7

abbrev pub dividing : Division → Width → Vreg → Vreg → Vreg → Instr
dividing o df wd ws wt = instr.Three (record { 0 = place_in o }) df wd ws wt

abbrev pub DividesLanes : Type 0
DividesLanes =
    (o : Division) (df : Width) (wd ws wt : Vreg)
    → EachLane (dividing o df wd ws wt) df wd
    (λ m i r. Divided o (bits df) (lane_at df m.vec ws i) (lane_at df m.vec wt i) r)
