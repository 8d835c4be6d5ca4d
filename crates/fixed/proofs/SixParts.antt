-- Each of the six is the sum with its parts. Assumes nothing.
use mathlib.Core.Path.{◌≡◌, refl}
use mathlib.Core.Bool.{true, false}
use Prim.Native.Nat.{ℕ}
use Rattle.isa.specs.declared.Fixed.{Fixed}
use Rattle.isa.specs.declared.Fixed.TheVariants.{MulQ, MaddQ, MsubQ, MulrQ, MaddrQ, MsubrQ}
use Rattle.element.specs.Elements.{Elements}
use Rattle.element.proofs.Widths.{Size}
use Rattle.fixed.specs.Parts.{rounds, subtracts, old}
use Rattle.fixed.specs.Fixed.{cut, summed, fixed_of}
use Rattle.fixed.proofs.Forms.{alone}

pub parts : (n : ℕ) → Size n → {s t : ℕ} → Elements n s t → (d : ℕ) (o : Fixed)
    → cut (rounds o) n (summed (subtracts o) n (old o d) s t) ≡ fixed_of o n d s t
parts n size e d MulQ = alone n size e false refl
parts n size e d MaddQ = refl
parts n size e d MsubQ = refl
parts n size e d MulrQ = alone n size e true refl
parts n size e d MaddrQ = refl
parts n size e d MsubrQ = refl
