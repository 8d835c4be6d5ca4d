-- Every result is an element: `lane_below`.
-- Assumes nothing.
use Prim.Native.Nat.{ℕ, ◌^◌, ◌<◌}
use Rattle.element.specs.Elements.{Elements}
use Rattle.element.proofs.Widths.{Size}
use Rattle.arith.proofs.Below.{arith-below}
use Rattle.bits.proofs.Below.{bit-op-below, count-below}
use Rattle.fixed.proofs.Below.{fixed-below}
use Rattle.lanes.specs.declared.Lane.{Lane}
use Rattle.lanes.specs.declared.Lane.TheVariants.{Arith, Bit, Count, Fixed}
use Rattle.lanes.specs.Lane.{lane_of}

pub lane_below : (n : ℕ) → Size n → (d : ℕ) {s t : ℕ} → d < 2 ^ n → Elements n s t → (o : Lane) → lane_of o n d s t < 2 ^ n
lane_below n size d old e (Arith o) = arith-below n size e d o
lane_below n size d {t = t} old e (Bit o) = bit-op-below n size e.first t old o
lane_below n size d old e (Count o) = count-below n size e.first o
lane_below n size d {s} {t} old e (Fixed o) = fixed-below n size d s t o
