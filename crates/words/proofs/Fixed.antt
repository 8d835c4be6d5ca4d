-- The operations of 3RF that are read have H and W alone. Assumes nothing.
use mathlib.Core.Path.{◌≡◌, refl}
use mathlib.Core.Bool.{true}
use Prim.Native.Nat.{ℕ, ◌≤◌}
use native.Mathlib.Omega.{arith}
use lib.Dec.{ltb}
use Rattle.isa.specs.declared.Width.{Width}
use Rattle.isa.specs.declared.Width.TheVariants.{B, H, W, D}
use Rattle.isa.specs.Widths.{bits, hw_code, hw_at}
use Rattle.ops.specs.declared.Class.TheVariants as class
use Rattle.ops.specs.Formats.{hw, has}
use Rattle.ops.specs.Table.{class_at, has_form}
use Rattle.ops.proofs.Packed.{fixed-formats}

-- what holds of each format that an operation of the class has
abbrev Each : (Width → Type 0) → Type 0
Each P = (k : ℕ) (df : Width) → class_at k ≡ class.Fixed → has_form k df ≡ true → P df

by-hw : (P : Width → Type 0) → P H → P W → (df : Width) → has hw df ≡ true → P df
by-hw P h w B t = absurd (let z : ◌≡◌ {A = ℕ} 0 1 = cc in omega arith)
by-hw P h w H t = h
by-hw P h w W t = w
by-hw P h w D t = absurd (let z : ◌≡◌ {A = ℕ} 0 1 = cc in omega arith)

each : (P : Width → Type 0) → P H → P W → Each P
each P h w k df e t = by-hw P h w df (rw (fixed-formats k e) at t)

pub fixed-narrow : Each (λ df. bits df ≤ 32)
fixed-narrow = each _ (omega arith) (omega arith)

-- the format's number is one bit, and the format of that bit is the format
pub fixed-bit : Each (λ df. ltb (hw_code df) 2 ≡ true)
fixed-bit = each _ refl refl

pub fixed-format : Each (λ df. hw_at (hw_code df) ≡ df)
fixed-format = each _ refl refl
