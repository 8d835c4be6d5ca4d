-- `values::operands::ones_of` meets its contract: all ones, shifted by what the width leaves of 64 bits.
use mathlib.Core.Path.{◌≡◌, refl}
use Prim.Native.Nat.{ℕ, ◌-◌, ◌*◌, ◌/◌, ◌%◌, ◌^◌, ◌≤◌, ◌<◌}
use native.Mathlib.Omega.{arith}
use Rattle.isa.specs.declared.Width.{Width}
use Rattle.isa.specs.declared.Width.TheVariants.{B, H, W, D}
use Rattle.isa.specs.Widths.{bits, width_code}
use Rattle.values.proofs.operands.ones_of.Goals as goal

width-bits : (w : Width) → 8 * 2 ^ width_code w % 18446744073709551616 ≡ bits w
width-bits B = refl
width-bits H = refl
width-bits W = refl
width-bits D = refl

few : (w : Width) → (0 < bits w) × (bits w ≤ 64)
few B = (omega arith, omega arith)
few H = (omega arith, omega arith)
few W = (omega arith, omega arith)
few D = (omega arith, omega arith)

ones : (w : Width) → 18446744073709551615 / 2 ^ (64 - bits w) ≡ 2 ^ bits w - 1
ones B = refl
ones H = refl
ones W = refl
ones D = refl

-- the bits of the width, by its code
module _ (w : Width) {k : ℕ} (e : k ≡ width_code w) where
  by_code : 8 * 2 ^ k % 18446744073709551616 ≡ bits w
  by_code = rw e (width-bits w)

  ones-by-code : 18446744073709551615 / 2 ^ (64 - 8 * 2 ^ k % 18446744073709551616) ≡ 2 ^ bits w - 1
  ones-by-code = rw by_code (ones w)

pub overflow_shl-result : goal.overflow_shl-result
overflow_shl-result c = omega (arith, c.width_code.ensures.1)

pub overflow_sub-result : goal.overflow_sub-result
overflow_sub-result c = omega (arith, by_code c.args.w c.width_code.ensures.0, (few c.args.w).1)

pub overflow_shr-result : goal.overflow_shr-result
overflow_shr-result c = omega (arith, by_code c.args.w c.width_code.ensures.0, (few c.args.w).0)

pub returns : goal.returns
returns c = ones-by-code c.args.w c.width_code.ensures.0
