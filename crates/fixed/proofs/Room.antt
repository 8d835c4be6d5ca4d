-- Why 64 bits hold the products of elements of at most 32 bits, and what rounding adds: a product of views is at most
-- 2^n less than 2^(2n), and rounding adds less than 2^n. The old destination is added after the cut. Assumes nothing.
use mathlib.Core.Path.{◌≡◌, ap, ◌∙◌}
use mathlib.Core.Bool.{Bool, true, false}
use Prim.Native.Nat.{ℕ, ◌+◌, ◌-◌, ◌*◌, ◌/◌, ◌^◌, ◌≤◌, ◌<◌}
use native.Mathlib.Omega.{arith}
use native.Mathlib.Nat.{div-lt_iff_lt-mul, mul-le-mul_left, mul-le-mul_right, pow-suc}
use lib.Dec.{lit<}
use lib.Pow.{pow-add, pow_mono, pow_pos}
use Rattle.isa.specs.declared.Width.{Width}
use Rattle.isa.specs.declared.Width.TheVariants.{B, H, W, D}
use Rattle.isa.specs.Widths.{bits}
use Rattle.element.specs.Value.{top}
use Rattle.element.specs.Views.{flip}
use Rattle.element.proofs.Views.{flip-below}
use Rattle.element.proofs.Widths.{Size}
use Rattle.fixed.specs.Parts.{factor}
use Rattle.fixed.specs.Fixed.{rounding}

-- every width has a bit below its top bit, and rounding adds that bit's weight
pub wide : (w : Width) → 1 < bits w
wide B = lit< tt
wide H = lit< tt
wide W = lit< tt
wide D = lit< tt

pub rounding-twice : (n : ℕ) → 1 < n → top n ≡ rounding true n + rounding true n
rounding-twice n h =
    let twice : top n ≡ 2 ^ (n - 2) * 2 = ap (λ x. 2 ^ x) (omega arith) ∙ pow-suc 2 (n - 2) in
    omega arith

module _ (n : ℕ) (size : Size n) where
  pub factor-most : (minus : Bool) {t : ℕ} → t < 2 ^ n → factor minus n t ≤ 2 ^ n
  factor-most false h = omega (arith, flip-below n size h)
  factor-most true h = omega arith

  rounding-below : (rounded : Bool) → rounding rounded n < 2 ^ n
  rounding-below false = pow_pos n
  rounding-below true = omega (arith, pow_mono {i = n - 2} {j = n - 1} (omega arith), size.twice, size.some)

  pub product-room : n ≤ 32 → (rounded minus : Bool) {s t : ℕ} → s < 2 ^ n → t < 2 ^ n
      → flip n s * factor minus n t + rounding rounded n < 2 ^ 64
  product-room few rounded minus {s} {t} hs ht =
      let square : 2 ^ n * 2 ^ n ≤ 2 ^ 64 = rw (pow-add 2 n n) at (pow_mono {i = n + n} {j = 64} (omega arith)) in
      let most : flip n s * factor minus n t ≤ flip n s * 2 ^ n = mul-le-mul_left (flip n s) (factor-most minus ht) in
      let below : flip n s + 1 ≤ 2 ^ n = omega (arith, flip-below n size hs) in
      let less : (flip n s + 1) * 2 ^ n ≤ 2 ^ n * 2 ^ n = mul-le-mul_right (2 ^ n) below in
      omega (arith, rounding-below rounded)

  -- and the cut product, with 1 added
  pub quotient-room : n ≤ 32 → 1 < n → {x : ℕ} → x < 2 ^ 64 → x / top n + top n < 2 ^ 64
  quotient-room few many {x} h =
      let two : 2 ^ 63 * 2 ≤ 2 ^ 63 * top n = mul-le-mul_left (2 ^ 63) (pow_mono {i = 1} {j = n - 1} (omega arith)) in
      let less : x / top n < 2 ^ 63 = (div-lt_iff_lt-mul size.some).1 (omega arith) in
      omega (arith, pow_mono {i = n - 1} {j = 31} (omega arith))
