-- Every result is an element.
-- Assumes nothing.
use Rattle.std.proofs.Common.{ℕ, ◌^◌, ◌<◌, Bool, ℤ, mod-lt, arith, pow_pos}
use lib.Signed.{lt_z}
use Rattle.isa.specs.declared.Basic.{Basic}
use Rattle.isa.specs.declared.Basic.TheVariants.{Addv, Subv, MaxS, MaxU, MinS, MinU}
use Rattle.isa.specs.declared.Absolute.{Absolute}
use Rattle.isa.specs.declared.Absolute.TheVariants.{MaxA, MinA}
use Rattle.isa.specs.declared.Compare.{Compare}
use Rattle.isa.specs.declared.Compare.TheVariants.{Ceq, CltS, CltU, CleS, CleU}
use Rattle.isa.specs.declared.Addition.{Addition}
use Rattle.isa.specs.declared.Addition.TheVariants.{AddA, AddsA, AddsS, AddsU, AveS, AveU, AverS, AverU}
use Rattle.isa.specs.declared.Subtraction.{Subtraction}
use Rattle.isa.specs.declared.Subtraction.TheVariants.{SubsS, SubsU, SubsusU, SubsuuS, AsubS, AsubU}
use Rattle.element.specs.declared.Reading.{Reading}
use Rattle.element.specs.declared.Reading.TheVariants.{Unsigned, Signed}
use Rattle.element.specs.Elements.{Elements}
use Rattle.element.proofs.Diff.{cond_below}
use Rattle.element.proofs.Readings.{view-below, sat-below}
use Rattle.element.proofs.Views.{wrap-below}
use Rattle.element.proofs.Widths.{Size}
use Rattle.linear.specs.Operations.{basic_of, absolute_of, compare_of, addition_of, subtraction_of}
use Rattle.linear.specs.Sums as sums
use Rattle.linear.specs.Order as order
use Rattle.linear.proofs.Forms.{asub-form}

mask_below : (n : ℕ) (b : Bool) → order.mask n b < 2 ^ n
unfolding order.mask
mask_below n b = cond_below b (omega (arith, pow_pos n)) (pow_pos n)

module _ (n : ℕ) (size : Size n) {s t : ℕ} (e : Elements n s t) where
  larger-below : (v : ℕ → ℤ) → order.larger v s t < 2 ^ n
  unfolding order.larger
  larger-below v = cond_below (lt_z (v t) (v s)) e.first e.second

  smaller-below : (v : ℕ → ℤ) → order.smaller v s t < 2 ^ n
  unfolding order.smaller
  smaller-below v = cond_below (lt_z (v s) (v t)) e.first e.second

  asub-below : (g : Reading) → sums.asub g n s t < 2 ^ n
  asub-below g = omega (arith, asub-form n size g e, view-below n size g e.first, view-below n size g e.second)

  pub basic-below : (o : Basic) → basic_of o n s t < 2 ^ n
  unfolding sums.addv sums.subv
  basic-below Addv = mod-lt _ (pow_pos n)
  basic-below Subv = wrap-below n _
  basic-below MaxS = larger-below _
  basic-below MaxU = larger-below _
  basic-below MinS = smaller-below _
  basic-below MinU = smaller-below _

  pub absolute-below : (o : Absolute) → absolute_of o n s t < 2 ^ n
  absolute-below MaxA = larger-below _
  absolute-below MinA = smaller-below _

  pub compare-below : (o : Compare) → compare_of o n s t < 2 ^ n
  compare-below Ceq = mask_below n _
  compare-below CltS = mask_below n _
  compare-below CltU = mask_below n _
  compare-below CleS = mask_below n _
  compare-below CleU = mask_below n _

  pub addition-below : (o : Addition) → addition_of o n s t < 2 ^ n
  unfolding sums.add_a sums.adds_a sums.adds sums.average
  addition-below AddA = mod-lt _ (pow_pos n)
  addition-below AddsA = omega arith
  addition-below AddsS = sat-below n size Signed _
  addition-below AddsU = sat-below n size Unsigned _
  addition-below AveS = wrap-below n _
  addition-below AveU = wrap-below n _
  addition-below AverS = wrap-below n _
  addition-below AverU = wrap-below n _

  pub subtraction-below : (o : Subtraction) → subtraction_of o n s t < 2 ^ n
  unfolding sums.subs sums.subsus_u sums.subsuu_s
  subtraction-below SubsS = sat-below n size Signed _
  subtraction-below SubsU = sat-below n size Unsigned _
  subtraction-below SubsusU = sat-below n size Unsigned _
  subtraction-below SubsuuS = sat-below n size Signed _
  subtraction-below AsubS = asub-below Signed
  subtraction-below AsubU = asub-below Unsigned
