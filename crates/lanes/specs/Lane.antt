-- What an operation with a data format makes of the old element d of wd and the elements s and t of ws and wt, all of n bits.
-- An immediate form has the immediate in the place of t.
use Rattle.std.specs.Prelude.{ℕ, ◌≤◌}
use Rattle.arith.specs.Arith.{arith_of}
use Rattle.bits.specs.Bits.{bit_op_of, count_of}
use Rattle.fixed.specs.Fixed.{fixed_of}
use Rattle.lanes.specs.declared.Lane.{Lane}
use Rattle.lanes.specs.declared.Lane.TheVariants.{Arith, Bit, Count, Fixed}

abbrev pub lane_of : Lane → ℕ → ℕ → ℕ → ℕ → ℕ
lane_of (Arith o) n d s t = arith_of o n d s t
lane_of (Bit o) n d s t = bit_op_of o n d s t
lane_of (Count o) n d s t = count_of o n s
lane_of (Fixed o) n d s t = fixed_of o n d s t

-- the widths at which the code works an operation out: a fixed-point multiply has 2n bits on the way, and 64 hold them
-- up to n = 32
abbrev pub Fits : Lane → ℕ → Type 0
Fits (Arith o) n = Unit {0}
Fits (Bit o) n = Unit {0}
Fits (Count o) n = Unit {0}
Fits (Fixed o) n = n ≤ 32
