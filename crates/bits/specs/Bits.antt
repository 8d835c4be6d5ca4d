-- What each operation of Table 4.2 with a data format, and SAT, makes of the old element d and the elements s and t.
use Rattle.std.specs.Prelude.{ℕ, ◌-◌, ◌%◌}
use Rattle.std.specs.Int.Count.{ones, count_leading_zeros}
use Rattle.isa.specs.declared.Bitwise.{Bitwise}
use Rattle.isa.specs.declared.Bitwise.TheVariants.{Sll, Sra, Srl, Bclr, Bset, Bneg, Binsl, Binsr}
use Rattle.isa.specs.declared.Rounding.{Rounding}
use Rattle.isa.specs.declared.Rounding.TheVariants.{Srar, Srlr}
use Rattle.isa.specs.declared.Saturate.{Saturate}
use Rattle.isa.specs.declared.Saturate.TheVariants.{SatS, SatU}
use Rattle.isa.specs.declared.BitOp.{BitOp}
use Rattle.isa.specs.declared.BitOp.TheVariants as bit
use Rattle.isa.specs.declared.Count.{Count}
use Rattle.isa.specs.declared.Count.TheVariants.{Pcnt, Nloc, Nlzc}
use Rattle.element.specs.declared.Reading.TheVariants.{Unsigned, Signed}
use Rattle.bits.specs.Places.{bit_at, with_bit, binsl, binsr, nloc, sat_to}
use Rattle.bits.specs.Shifts.{sll, shift_right, shift_rounded}

abbrev pub bitwise_of : Bitwise → ℕ → ℕ → ℕ → ℕ → ℕ
bitwise_of Sll n d s k = sll n s k
bitwise_of Sra n d s k = shift_right Signed n s k
bitwise_of Srl n d s k = shift_right Unsigned n s k
bitwise_of Bclr n d s k = with_bit s k 0
bitwise_of Bset n d s k = with_bit s k 1
bitwise_of Bneg n d s k = with_bit s k (1 - bit_at s k)
bitwise_of Binsl n d s k = binsl n d s k
bitwise_of Binsr n d s k = binsr n d s k

abbrev pub rounding_of : Rounding → ℕ → ℕ → ℕ → ℕ
rounding_of Srar n s k = shift_rounded Signed n s k
rounding_of Srlr n s k = shift_rounded Unsigned n s k

abbrev pub saturate_of : Saturate → ℕ → ℕ → ℕ → ℕ
saturate_of SatS n s m = sat_to Signed n s m
saturate_of SatU n s m = sat_to Unsigned n s m

-- amounts count modulo the element's bits; an immediate form has its m below n, and in every element of t
abbrev pub bit_op_of : BitOp → ℕ → ℕ → ℕ → ℕ → ℕ
bit_op_of (bit.Bitwise o) n d s t = bitwise_of o n d s (t % n)
bit_op_of (bit.Saturate o) n d s t = saturate_of o n s (t % n)
bit_op_of (bit.Rounding o) n d s t = rounding_of o n s (t % n)

abbrev pub count_of : Count → ℕ → ℕ → ℕ
count_of Pcnt n s = ones s
count_of Nloc n s = nloc n s
count_of Nlzc n s = count_leading_zeros n s
