-- What each sum, difference, average and compare makes of the elements s and t.
use Rattle.std.specs.Prelude.{ℕ, ◌==◌, int_le, int_lt}
use Rattle.isa.specs.declared.Basic.{Basic}
use Rattle.isa.specs.declared.Basic.TheVariants.{Addv, Subv, MaxS, MaxU, MinS, MinU}
use Rattle.isa.specs.declared.Absolute.{Absolute}
use Rattle.isa.specs.declared.Absolute.TheVariants.{MaxA, MinA}
use Rattle.isa.specs.declared.Compare.{Compare}
use Rattle.isa.specs.declared.Compare.TheVariants.{Ceq, CltS, CltU, CleS, CleU}
use Rattle.isa.specs.declared.Addition.{Addition}
use Rattle.isa.specs.declared.Addition.TheVariants.{AddA, AddsA, AddsS, AddsU, AveS, AveU, AverS, AverU}
use Rattle.isa.specs.declared.Subtraction.{Subtraction}
use Rattle.isa.specs.declared.Subtraction.TheVariants.{SubsS, SubsU, SubsusU, SubsuuS, AsubS, AsubU}
use Rattle.element.specs.declared.Reading.TheVariants.{Unsigned, Signed}
use Rattle.element.specs.Value.{value}
use Rattle.linear.specs.Sums as sums
use Rattle.linear.specs.Order as order

abbrev pub basic_of : Basic → ℕ → ℕ → ℕ → ℕ
basic_of Addv n s t = sums.addv n s t
basic_of Subv n s t = sums.subv n s t
basic_of MaxS n s t = order.larger (value Signed n) s t
basic_of MaxU n s t = order.larger (value Unsigned n) s t
basic_of MinS n s t = order.smaller (value Signed n) s t
basic_of MinU n s t = order.smaller (value Unsigned n) s t

abbrev pub absolute_of : Absolute → ℕ → ℕ → ℕ → ℕ
absolute_of MaxA n s t = order.larger (order.absolute n) s t
absolute_of MinA n s t = order.smaller (order.absolute n) s t

abbrev pub compare_of : Compare → ℕ → ℕ → ℕ → ℕ
compare_of Ceq n s t = order.mask n (s == t)
compare_of CltS n s t = order.mask n (int_lt (value Signed n s) (value Signed n t))
compare_of CltU n s t = order.mask n (int_lt (value Unsigned n s) (value Unsigned n t))
compare_of CleS n s t = order.mask n (int_le (value Signed n s) (value Signed n t))
compare_of CleU n s t = order.mask n (int_le (value Unsigned n s) (value Unsigned n t))

abbrev pub addition_of : Addition → ℕ → ℕ → ℕ → ℕ
addition_of AddA n s t = sums.add_a n s t
addition_of AddsA n s t = sums.adds_a n s t
addition_of AddsS n s t = sums.adds Signed n s t
addition_of AddsU n s t = sums.adds Unsigned n s t
addition_of AveS n s t = sums.average Signed n 0 s t
addition_of AveU n s t = sums.average Unsigned n 0 s t
addition_of AverS n s t = sums.average Signed n 1 s t
addition_of AverU n s t = sums.average Unsigned n 1 s t

abbrev pub subtraction_of : Subtraction → ℕ → ℕ → ℕ → ℕ
subtraction_of SubsS n s t = sums.subs Signed n s t
subtraction_of SubsU n s t = sums.subs Unsigned n s t
subtraction_of SubsusU n s t = sums.subsus_u n s t
subtraction_of SubsuuS n s t = sums.subsuu_s n s t
subtraction_of AsubS n s t = sums.asub Signed n s t
subtraction_of AsubU n s t = sums.asub Unsigned n s t
