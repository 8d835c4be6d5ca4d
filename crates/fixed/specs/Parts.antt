-- A device of the code and its proofs, and no part of what an operation means. The six as one sum: whether an operation
-- rounds, whether it subtracts, and the old element that it goes by, 0 for a product alone. And the view of t, or of
-- −t, 2^(n − 1) more than the number: that of −t is 2^n where t is the lowest.
use Rattle.std.specs.Prelude.{Bool, true, false, ℕ, ◌-◌, ◌^◌}
use Rattle.isa.specs.declared.Fixed.{Fixed}
use Rattle.isa.specs.declared.Fixed.TheVariants.{MulQ, MaddQ, MsubQ, MulrQ, MaddrQ, MsubrQ}
use Rattle.element.specs.Views.{flip}

abbrev pub rounds : Fixed → Bool
rounds MulQ = false
rounds MaddQ = false
rounds MsubQ = false
rounds MulrQ = true
rounds MaddrQ = true
rounds MsubrQ = true

abbrev pub subtracts : Fixed → Bool
subtracts MulQ = false
subtracts MaddQ = false
subtracts MsubQ = true
subtracts MulrQ = false
subtracts MaddrQ = false
subtracts MsubrQ = true

abbrev pub old : Fixed → ℕ → ℕ
old MulQ d = 0
old MaddQ d = d
old MsubQ d = d
old MulrQ d = 0
old MaddrQ d = d
old MsubrQ d = d

abbrev pub factor : Bool → ℕ → ℕ → ℕ
factor false n t = flip n t
factor true n t = 2 ^ n - flip n t
