-- The lowest bits of a word are what is left of it. Assumes nothing.
use mathlib.Core.Path.{◌≡◌}
use Prim.Native.Nat.{ℕ, ◌%◌}
use native.Mathlib.Omega.{arith}
use Rattle.fields.specs.Fields.{bits}

pub low6 : (w : ℕ) → bits w 5 0 ≡ w % 64
low6 w = omega arith

pub low2 : (w : ℕ) → bits w 1 0 ≡ w % 4
low2 w = omega arith
