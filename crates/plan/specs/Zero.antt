-- When a branch is taken: BZ with a format if some element is zero, BNZ if none is; BZ.V if no bit is set, BNZ.V if
-- some is.
use Rattle.std.specs.Prelude.{ℕ, zero, suc, ◌/◌, Bool, false, not, ◌||◌, eqb}
use Rattle.isa.specs.declared.Width.{Width}
use Rattle.isa.specs.declared.Zero.{Zero}
use Rattle.isa.specs.declared.Zero.TheVariants.{Bz, Bnz}
use Rattle.isa.specs.Widths.{bits}
use Rattle.vectors.specs.Register.{element}

-- some of the first m elements of n bits is zero
unfoldable pub some_zero : ℕ → ℕ → ℕ → Bool
some_zero n v zero = false
some_zero n v (suc m) = eqb (element n v m) 0 || some_zero n v m

abbrev pub taken_if : Zero → Bool → Bool
taken_if Bz zero? = zero?
taken_if Bnz zero? = not zero?

abbrev pub taken_of : Zero → Width → ℕ → Bool
taken_of o df t = taken_if o (some_zero (bits df) t (128 / bits df))

abbrev pub taken_vof : Zero → ℕ → Bool
taken_vof o t = taken_if o (eqb t 0)
