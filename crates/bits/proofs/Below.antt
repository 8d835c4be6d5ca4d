-- Every result is an element: `bit-op-below`, `count-below`.
-- Assumes nothing.
use Prim.Native.Nat.{ℕ, ◌-◌, ◌%◌, ◌^◌, ◌<◌}
use native.Mathlib.Omega.{arith}
use native.Mathlib.Nat.{mod-lt, lt_of_le_of_lt}
use lib.Count.{leading_le, ones-le}
use lib.Pow.{pow_pos}
use Rattle.isa.specs.declared.Bitwise.{Bitwise}
use Rattle.isa.specs.declared.Bitwise.TheVariants.{Sll, Sra, Srl, Bclr, Bset, Bneg, Binsl, Binsr}
use Rattle.isa.specs.declared.Rounding.TheVariants.{Srar, Srlr}
use Rattle.isa.specs.declared.Saturate.TheVariants.{SatS, SatU}
use Rattle.isa.specs.declared.BitOp.{BitOp}
use Rattle.isa.specs.declared.BitOp.TheVariants as bit
use Rattle.isa.specs.declared.Count.{Count}
use Rattle.isa.specs.declared.Count.TheVariants.{Pcnt, Nloc, Nlzc}
use Rattle.element.proofs.Views.{wrap-below}
use Rattle.element.proofs.Widths.{Size}
use Rattle.bits.specs.Bits.{bitwise_of, bit_op_of, count_of}
use Rattle.bits.specs.Places.{bit_at, binsl, binsr, nloc, sat_to}
use Rattle.bits.specs.Shifts.{sll, shift_right, shift_rounded}
use Rattle.bits.proofs.Fields.{over_below, with-below}

module _ (n : ℕ) (size : Size n) {s : ℕ} (new : s < 2 ^ n) where
  bitwise-below : {d : ℕ} (k : ℕ) → d < 2 ^ n → k < n → (o : Bitwise) → bitwise_of o n d s k < 2 ^ n
  unfolding sll shift_right binsl binsr
  bitwise-below k old small Sll = mod-lt _ (pow_pos n)
  bitwise-below k old small Sra = wrap-below n _
  bitwise-below k old small Srl = wrap-below n _
  bitwise-below k old small Bclr = with-below s k n 0 (omega arith) new small
  bitwise-below k old small Bset = with-below s k n 1 (omega arith) new small
  bitwise-below k old small Bneg = with-below s k n (1 - bit_at s k) (omega arith) new small
  bitwise-below k old small Binsl = over_below n _ s (n - 1 - k) new (omega arith)
  bitwise-below k old small Binsr = over_below n s _ _ old (omega arith)

  pub bit-op-below : {d : ℕ} (t : ℕ) → d < 2 ^ n → (o : BitOp) → bit_op_of o n d s t < 2 ^ n
  unfolding sat_to shift_rounded
  bit-op-below t old (bit.Bitwise o) = bitwise-below (t % n) old (mod-lt t size.any) o
  bit-op-below t old (bit.Saturate SatS) = wrap-below n _
  bit-op-below t old (bit.Saturate SatU) = wrap-below n _
  bit-op-below t old (bit.Rounding Srar) = wrap-below n _
  bit-op-below t old (bit.Rounding Srlr) = wrap-below n _

  pub count-below : (o : Count) → count_of o n s < 2 ^ n
  unfolding nloc
  count-below Pcnt = lt_of_le_of_lt (ones-le n s new) size.bits_below
  count-below Nloc = lt_of_le_of_lt (leading_le n _) size.bits_below
  count-below Nlzc = lt_of_le_of_lt (leading_le n s) size.bits_below
