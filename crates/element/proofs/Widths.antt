-- What holds of each of the four widths, and of their halves.
-- Assumes nothing.
use mathlib.Core.Path.{◌≡◌, refl, ap, ◌∙◌}
use Prim.Native.Nat.{ℕ, zero, suc, ◌+◌, ◌-◌, ◌*◌, ◌/◌, ◌%◌, ◌^◌, ◌≤◌, ◌<◌}
use native.Mathlib.Omega.{arith}
use native.Mathlib.Nat.{mod-mod, pow-suc}
use lib.Dec.{lit≤, lit<}
use lib.Pow.{pow_pos, pow_mono, mod-mod-pow}
use Rattle.isa.specs.declared.Width.{Width}
use Rattle.isa.specs.declared.Width.TheVariants.{B, H, W, D}
use Rattle.isa.specs.Widths.{bits}
use Rattle.element.specs.Value.{top}

-- the size of an element is twice its top bit's weight, and fits a u64
pub record Size (n : ℕ) : Type 0 where
  pub some : 0 < top n
  pub twice : 2 ^ n ≡ top n + top n
  pub room : 2 ^ n ≤ 2 ^ 64
  pub any : 0 < n
  pub few : n ≤ 64
  pub bits_below : n < 2 ^ n

-- half the width is a width too, and an element is two halves
pub record Half (n : ℕ) : Type 0 where
  pub part : Size (n / 2)
  pub whole : 2 ^ n ≡ 2 ^ (n / 2) * 2 ^ (n / 2)
  pub room : 2 ^ (n / 2) ≤ 2 ^ n

bits_below : (n : ℕ) → n < 2 ^ n
bits_below zero = lit< tt
bits_below (suc n) = rw (pow-suc 2 n) (omega (arith, bits_below n))

pub sized : (n : ℕ) → 0 < n → n ≤ 64 → Size n
sized n any few =
    let twice : 2 ^ n ≡ top n * 2 = ap (λ x. 2 ^ x) (omega arith) ∙ pow-suc 2 (n - 1) in
    record { some = pow_pos (n - 1); twice = omega arith; room = pow_mono few; any = any; few = few; bits_below = bits_below n }

pub size : (w : Width) → Size (bits w)
size B = sized 8 (lit< tt) (lit≤ tt)
size H = sized 16 (lit< tt) (lit≤ tt)
size W = sized 32 (lit< tt) (lit≤ tt)
size D = sized 64 (lit< tt) (lit≤ tt)

pub half-size : (w : Width) → Half (bits w)
half-size B = record { part = sized 4 (lit< tt) (lit≤ tt); whole = refl; room = lit≤ tt }
half-size H = record { part = sized 8 (lit< tt) (lit≤ tt); whole = refl; room = lit≤ tt }
half-size W = record { part = sized 16 (lit< tt) (lit≤ tt); whole = refl; room = lit≤ tt }
half-size D = record { part = sized 32 (lit< tt) (lit≤ tt); whole = refl; room = lit≤ tt }

-- the low bits of an element are those of the low 64 bits
pub low-low : (w : Width) (x : ℕ) → x % 2 ^ 64 % 2 ^ bits w ≡ x % 2 ^ bits w
low-low B x = mod-mod-pow x 56 8
low-low H x = mod-mod-pow x 48 16
low-low W x = mod-mod-pow x 32 32
low-low D x = mod-mod x (2 ^ 64)
