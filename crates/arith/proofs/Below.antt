-- Every result is an element: `arith-below`.
-- Assumes nothing.
use Prim.Native.Nat.{ℕ, ◌^◌, ◌<◌}
use Rattle.isa.specs.declared.Arith.{Arith}
use Rattle.isa.specs.declared.Arith.TheVariants as arith
use Rattle.element.specs.Elements.{Elements}
use Rattle.element.proofs.Widths.{Size}
use Rattle.linear.proofs.Below.{basic-below, absolute-below, compare-below, addition-below, subtraction-below}
use Rattle.products.proofs.Below.{product-below, dot-below, across-below}
use Rattle.arith.specs.Arith.{arith_of}

pub arith-below : (n : ℕ) → Size n → {s t : ℕ} → Elements n s t → (d : ℕ) (o : Arith) → arith_of o n d s t < 2 ^ n
arith-below n size e d (arith.Basic o) = basic-below n size e o
arith-below n size e d (arith.Absolute o) = absolute-below n size e o
arith-below n size e d (arith.Compare o) = compare-below n size e o
arith-below n size e d (arith.Addition o) = addition-below n size e o
arith-below n size e d (arith.Subtraction o) = subtraction-below n size e o
arith-below n size {s} {t} e d (arith.Product o) = product-below n s t d o
arith-below n size {s} {t} e d (arith.Dot o) = dot-below n s t d o
arith-below n size {s} {t} e d (arith.Across o) = across-below n s t o
