-- `plan::trap::shared`: the bit's weight, or 0.
use Prim.Native.Nat.{ℕ, ◌+◌, ◌*◌, ◌%◌, ◌^◌, ◌≤◌, ◌<◌}
use borrow.Author.Rules.{rules}
use lib.Pow.{pow-add, pow_mono}
use mathlib.Core.Path.{◌≡◌, refl}
use native.Mathlib.Omega.{arith}
use Rattle.plan.proofs.trap.shared.Goals as goal

weight : (k : ℕ) → k < 12 → (32 * 2 ^ k % 4294967296 ≡ 2 ^ (5 + k)) × (32 * 2 ^ k % 4294967296 ≤ 65536)
weight k h =
    let most : 2 ^ k ≤ 2 ^ 11 = pow_mono {i = k} {j = 11} (omega arith) in
    let is : 2 ^ (5 + k) ≡ 2 ^ 5 * 2 ^ k = pow-add 2 5 k in
    (omega (arith, most, is), omega (arith, most))

pub returns-then-bit : goal.returns-then-bit
returns-then-bit c = rw (← c.bit.ensures, ← c.bit-2.ensures, c.if-bit.true) (weight _ (search rules))

pub returns-else-bit : goal.returns-else-bit
returns-else-bit c = rw (← c.bit.ensures, ← c.bit-2.ensures, c.if-bit.false) (refl, omega arith)
