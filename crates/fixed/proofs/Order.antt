-- The order of whole numbers is that of the natural numbers whose differences they are.
-- Assumes nothing.
use Prim.Native.Nat.{ℕ, ◌+◌, ◌-◌, ◌*◌, ◌/◌, ◌%◌, ◌≤◌, ◌<◌}
use native.Mathlib.Omega.{arith}
use native.Mathlib.Nat.{div-add-mod', mod-lt}
use borrow.Author.Tests.{le-ltb, lt-ltb}
use lib.Dec.{ltb→lt}
use lib.IntN.{ℤ, pos, negsuc}
use lib.Signed.{◌≤ℤ◌, ◌<ℤ◌, lt_z_no, clash_ℤ}
use Rattle.element.proofs.Diff.{Diff, by_order, diff-lt}

module _ {y z : ℤ} {a b c d : ℕ} (g : Diff y a b) (h : Diff z c d) where
  pub to-less : a + d < c + b → y <ℤ z
  to-less l = record { lt = rw (diff-lt g h, lt-ltb (a + d) (c + b) l) tt }

  pub from_less : y <ℤ z → a + d < c + b
  from_less l = ltb→lt (a + d) (c + b) (rw (diff-lt g h) at l.lt)

module _ {y z : ℤ} {a b c d : ℕ} (g : Diff y a b) (h : Diff z c d) where
  pub to-most : a + d ≤ c + b → y ≤ℤ z
  to-most l = lt_z_no (rw (diff-lt h g, le-ltb (c + b) (a + d) l) tt)

  pub from-most : y ≤ℤ z → a + d ≤ c + b
  from-most l = by_order (c + b) (a + d) (λ k. clash_ℤ (to-less h g k) l) (λ k. k)

-- every number is a difference, over a multiple of m
pub over-multiple : {P : Type 0} (m : ℕ) → 0 < m → (z : ℤ) → ((a b : ℕ) → Diff z a (b * m) → P) → P
over-multiple m some (pos k) f = f k 0 (omega arith)
over-multiple m some (negsuc k) f =
    f (m - 1 - k % m) (k / m + 1) (omega (arith, div-add-mod' k m, mod-lt k some))
