-- How elements fill a word and a register: those of the four widths, and single bits.
use mathlib.Core.Path.{◌≡◌, refl}
use Prim.Native.Nat.{ℕ, suc, ◌+◌, ◌*◌, ◌/◌, ◌≤◌, ◌<◌}
use native.Mathlib.Nat.{mul-le-mul_left}
use native.Mathlib.Omega.{arith}
use lib.Dec.{lit≤, lit<}
use Rattle.isa.specs.declared.Width.{Width}
use Rattle.isa.specs.declared.Width.TheVariants.{B, H, W, D}
use Rattle.isa.specs.Widths.{bits}

pub record Shares (n : ℕ) : Type 0 where
  pub word : n * (64 / n) ≡ 64
  pub register : n * (128 / n) ≡ 128
  pub double : 128 / n ≡ 64 / n + 64 / n

pub shares-bit : Shares 1
shares-bit = record { word = refl; register = refl; double = refl }

pub shares : (w : Width) → Shares (bits w)
shares B = record { word = refl; register = refl; double = refl }
shares H = record { word = refl; register = refl; double = refl }
shares W = record { word = refl; register = refl; double = refl }
shares D = record { word = refl; register = refl; double = refl }

-- a word has one to eight elements
pub record Few (n : ℕ) : Type 0 where
  pub some : 0 < 64 / n
  pub few : 64 / n ≤ 8
  pub double : 128 / n ≡ 64 / n + 64 / n

pub few : (w : Width) → Few (bits w)
few B = record { some = lit< tt; few = lit≤ tt; double = refl }
few H = record { some = lit< tt; few = lit≤ tt; double = refl }
few W = record { some = lit< tt; few = lit≤ tt; double = refl }
few D = record { some = lit< tt; few = lit≤ tt; double = refl }

-- each element lies within the word, and within the register
within : (n all i : ℕ) → n * (all / n) ≡ all → i < all / n → n * i + n ≤ all
within n all i full h = omega (arith, full, mul-le-mul_left {m = suc i} {n = all / n} n (omega arith))

pub inside : {n : ℕ} → Shares n → (i : ℕ) → i < 64 / n → n * i + n ≤ 64
inside {n} share i h = within n 64 i share.word h

pub inside-register : {n : ℕ} → Shares n → (i : ℕ) → i < 128 / n → n * i + n ≤ 128
inside-register {n} share i h = within n 128 i share.register h

-- no element lies past the last
pub outside : {n : ℕ} → Shares n → (i : ℕ) → 128 / n ≤ i → 128 ≤ n * i
outside {n} share i h = omega (arith, share.register, mul-le-mul_left {m = 128 / n} {n = i} n h)
