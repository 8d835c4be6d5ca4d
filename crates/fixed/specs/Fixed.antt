-- The fixed-point multiplies, Table 4.7. An element of n bits stands for its signed number divided by 2^(n − 1); here
-- all is in whole numbers. The product of two signed numbers is 2^(n − 1) times the number of an element: products and
-- sums are exact at that scale, then cut to an element's and clamped, once, at the end.
use Rattle.std.specs.Prelude.{Bool, true, false, ℕ, ◌-◌, ◌^◌, ℤ, pos, ◌+ℤ◌, ◌-ℤ◌, ◌*ℤ◌}
use Rattle.std.specs.Int.Signed.{shr_z}
use Rattle.isa.specs.declared.Fixed.{Fixed}
use Rattle.isa.specs.declared.Fixed.TheVariants.{MulQ, MaddQ, MsubQ, MulrQ, MaddrQ, MsubrQ}
use Rattle.element.specs.declared.Reading.TheVariants.{Signed}
use Rattle.element.specs.Value.{top, signed, sat}

-- the exact product, and the old destination widened to its scale
unfoldable pub product : ℕ → ℕ → ℕ → ℤ
product n s t = signed n s *ℤ signed n t

unfoldable pub widened : ℕ → ℕ → ℤ
widened n d = signed n d *ℤ pos (top n)

-- where the name has R: 1 at the most significant bit that the cut discards
abbrev pub rounding : Bool → ℕ → ℕ
rounding false n = 0
rounding true n = 2 ^ (n - 2)

-- the element for an exact number. `shr_z z m` is the floor of z / m
unfoldable pub cut : Bool → ℕ → ℤ → ℕ
cut rounded n z = sat Signed n (shr_z (z +ℤ pos (rounding rounded n)) (top n))

-- the product is added to the old destination, or subtracted from it
abbrev pub summed : Bool → ℕ → ℕ → ℕ → ℕ → ℤ
summed false n d s t = widened n d +ℤ product n s t
summed true n d s t = widened n d -ℤ product n s t

-- what each makes of the old element d and the elements s and t
abbrev pub fixed_of : Fixed → ℕ → ℕ → ℕ → ℕ → ℕ
fixed_of MulQ n d s t = cut false n (product n s t)
fixed_of MaddQ n d s t = cut false n (summed false n d s t)
fixed_of MsubQ n d s t = cut false n (summed true n d s t)
fixed_of MulrQ n d s t = cut true n (product n s t)
fixed_of MaddrQ n d s t = cut true n (summed false n d s t)
fixed_of MsubrQ n d s t = cut true n (summed true n d s t)
