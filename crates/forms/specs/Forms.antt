-- What the operation of each encoding class makes of registers: d, s and t are the old wd, ws and wt, n the bits of the
-- format.
use Rattle.std.specs.Prelude.{Bool, true, false, ℕ, ◌/◌, ◌%◌}
use Rattle.isa.specs.declared.Arith.{Arith}
use Rattle.isa.specs.declared.BitOp.{BitOp}
use Rattle.isa.specs.declared.BitOp.TheVariants as bit
use Rattle.isa.specs.declared.Count.{Count}
use Rattle.isa.specs.declared.Fixed.{Fixed}
use Rattle.isa.specs.declared.Indexed.{Indexed}
use Rattle.isa.specs.declared.Indexed.TheVariants.{Sld, Splat}
use Rattle.isa.specs.declared.Logic.{Logic}
use Rattle.isa.specs.declared.Three.{Three}
use Rattle.isa.specs.declared.Three.TheVariants as three
use Rattle.lanes.specs.declared.Lane.TheVariants as lane
use Rattle.element.specs.Value.{signed, wrap}
use Rattle.vectors.specs.Register.{element, whole, together, filled}
use Rattle.each.specs.Lanes.{each_lane}
use Rattle.logic.specs.Logic.{logic_bit}
use Rattle.permute.specs.Permute.{packed, chosen_by_control, slid_byte}

abbrev pub three_of : Three → ℕ → ℕ → ℕ → ℕ → ℕ
three_of (three.Arith o) n d s t = each_lane (lane.Arith o) n d s t
three_of (three.Bitwise o) n d s t = each_lane (lane.Bit (bit.Bitwise o)) n d s t
three_of (three.Rounding o) n d s t = each_lane (lane.Bit (bit.Rounding o)) n d s t
three_of (three.Pack o) n d s t = whole n (packed o n s t)
three_of three.Vshf n d s t = whole n (chosen_by_control n d s t)

abbrev pub fixed_of : Fixed → ℕ → ℕ → ℕ → ℕ → ℕ
fixed_of o n d s t = each_lane (lane.Fixed o) n d s t

-- SLD and SLDI by x columns, and SPLAT and SPLATI of element x, each modulo the element count:
-- x is a general register, or the index of ELM
abbrev pub slid : ℕ → ℕ → ℕ → ℕ → ℕ
slid n d s x = whole 8 (slid_byte (128 / n) (x % (128 / n)) d s)

abbrev pub splatted : ℕ → ℕ → ℕ → ℕ
splatted n s x = filled n (element n s (x % (128 / n)))

abbrev pub indexed_of : Indexed → ℕ → ℕ → ℕ → ℕ → ℕ
indexed_of Sld n d s x = slid n d s x
indexed_of Splat n d s x = splatted n s x

-- the five bits of an immediate, as a signed number in 64 bits or as they are
abbrev pub immediate : Bool → ℕ → ℕ
immediate true imm = wrap 64 (signed 5 (imm % 32))
immediate false imm = imm % 32

-- the immediate, modulo 2^n, stands in every element in the place of wt
abbrev pub imm5_of : Arith → Bool → ℕ → ℕ → ℕ → ℕ
imm5_of o signed? n s imm = each_lane (lane.Arith o) n s s (filled n (immediate signed? imm))

abbrev pub bit_of : BitOp → ℕ → ℕ → ℕ → ℕ → ℕ
bit_of o n d s m = each_lane (lane.Bit o) n d s (filled n m)

-- the same byte in all sixteen
abbrev pub imm8_of : Logic → ℕ → ℕ → ℕ → ℕ
imm8_of o d s imm = together 1 (logic_bit o) d s (filled 8 imm)

abbrev pub count_of : Count → ℕ → ℕ → ℕ
count_of o n s = each_lane (lane.Count o) n s s s
