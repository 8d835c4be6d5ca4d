-- Every result is an element, whatever the operands are.
-- Assumes nothing.
use Rattle.std.proofs.Common.{ℕ, ◌^◌, ◌<◌, eqb, mod-lt, pow_pos}
use Rattle.isa.specs.declared.Product.{Product}
use Rattle.isa.specs.declared.Product.TheVariants.{Mulv, Maddv, Msubv, DivS, DivU, ModS, ModU}
use Rattle.isa.specs.declared.Dot.{Dot}
use Rattle.isa.specs.declared.Dot.TheVariants.{DotpS, DotpU, DpaddS, DpaddU, DpsubS, DpsubU}
use Rattle.isa.specs.declared.Across.{Across}
use Rattle.isa.specs.declared.Across.TheVariants.{HaddS, HaddU, HsubS, HsubU}
use Rattle.element.specs.declared.Reading.{Reading}
use Rattle.element.specs.declared.Reading.TheVariants.{Unsigned, Signed}
use Rattle.element.proofs.Diff.{cond_below}
use Rattle.element.proofs.Views.{wrap-below}
use Rattle.products.specs.Operations.{product_of, dot_of, across_of}
use Rattle.products.specs.Products as products
use Rattle.products.specs.Halves as halves

module _ (n s t : ℕ) where
  pub quotient-below : (g : Reading) → products.quotient g n s t < 2 ^ n
  unfolding products.quotient
  quotient-below g = cond_below (eqb t 0) (wrap-below n _) (wrap-below n _)

  pub remainder-below : (g : Reading) → products.remainder g n s t < 2 ^ n
  unfolding products.remainder
  remainder-below g = cond_below (eqb t 0) (wrap-below n _) (wrap-below n _)

  pub mulv-below : products.mulv n s t < 2 ^ n
  unfolding products.mulv
  mulv-below = mod-lt _ (pow_pos n)

  pub maddv-below : (d : ℕ) → products.maddv n d s t < 2 ^ n
  unfolding products.maddv
  maddv-below d = wrap-below n _

  pub msubv-below : (d : ℕ) → products.msubv n d s t < 2 ^ n
  unfolding products.msubv
  msubv-below d = wrap-below n _

  pub product-below : (d : ℕ) (o : Product) → product_of o n d s t < 2 ^ n
  product-below d Mulv = mulv-below
  product-below d Maddv = maddv-below d
  product-below d Msubv = msubv-below d
  product-below d DivS = quotient-below Signed
  product-below d DivU = quotient-below Unsigned
  product-below d ModS = remainder-below Signed
  product-below d ModU = remainder-below Unsigned

  pub dot-below : (d : ℕ) (o : Dot) → dot_of o n d s t < 2 ^ n
  unfolding halves.dotp halves.dpadd halves.dpsub
  dot-below d DotpS = wrap-below n _
  dot-below d DotpU = wrap-below n _
  dot-below d DpaddS = wrap-below n _
  dot-below d DpaddU = wrap-below n _
  dot-below d DpsubS = wrap-below n _
  dot-below d DpsubU = wrap-below n _

  pub across-below : (o : Across) → across_of o n s t < 2 ^ n
  unfolding halves.hadd halves.hsub
  across-below HaddS = wrap-below n _
  across-below HaddU = wrap-below n _
  across-below HsubS = wrap-below n _
  across-below HsubU = wrap-below n _
