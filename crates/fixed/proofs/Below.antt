-- Every result is an element, whatever the operands are. Assumes nothing.
use mathlib.Core.Bool.{Bool, true, false}
use Prim.Native.Nat.{ℕ, ◌^◌, ◌<◌}
use lib.IntN.{ℤ}
use Rattle.isa.specs.declared.Fixed.{Fixed}
use Rattle.isa.specs.declared.Fixed.TheVariants.{MulQ, MaddQ, MsubQ, MulrQ, MaddrQ, MsubrQ}
use Rattle.element.specs.declared.Reading.TheVariants.{Signed}
use Rattle.element.proofs.Readings.{sat-below}
use Rattle.element.proofs.Widths.{Size}
use Rattle.fixed.specs.Fixed.{cut, fixed_of}

pub cut_below : (n : ℕ) → Size n → (rounded : Bool) (z : ℤ) → cut rounded n z < 2 ^ n
unfolding cut
cut_below n size rounded z = sat-below n size Signed _

pub fixed-below : (n : ℕ) → Size n → (d s t : ℕ) (o : Fixed) → fixed_of o n d s t < 2 ^ n
fixed-below n size d s t MulQ = cut_below n size false _
fixed-below n size d s t MaddQ = cut_below n size false _
fixed-below n size d s t MsubQ = cut_below n size false _
fixed-below n size d s t MulrQ = cut_below n size true _
fixed-below n size d s t MaddrQ = cut_below n size true _
fixed-below n size d s t MsubrQ = cut_below n size true _
