-- What each operation of Table 4.1 but SAT, and each compare of Table 4.8, makes of the old element d and the elements s and t.
use Rattle.std.specs.Prelude.{ℕ}
use Rattle.isa.specs.declared.Arith.{Arith}
use Rattle.isa.specs.declared.Arith.TheVariants as arith
use Rattle.linear.specs.Operations.{basic_of, absolute_of, compare_of, addition_of, subtraction_of}
use Rattle.products.specs.Operations.{product_of, dot_of, across_of}

abbrev pub arith_of : Arith → ℕ → ℕ → ℕ → ℕ → ℕ
arith_of (arith.Basic o) n d s t = basic_of o n s t
arith_of (arith.Absolute o) n d s t = absolute_of o n s t
arith_of (arith.Compare o) n d s t = compare_of o n s t
arith_of (arith.Addition o) n d s t = addition_of o n s t
arith_of (arith.Subtraction o) n d s t = subtraction_of o n s t
arith_of (arith.Product o) n d s t = product_of o n d s t
arith_of (arith.Dot o) n d s t = dot_of o n d s t
arith_of (arith.Across o) n d s t = across_of o n s t
