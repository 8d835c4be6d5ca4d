-- The address of a load and of a store, and the window that holds all of it. Assumes nothing.
use mathlib.Core.Path.{◌≡◌, refl, sym, ap, ◌∙◌}
use mathlib.Core.Bool.{Bool, true, false, cond, ◌&&◌}
use Prim.Native.Nat.{ℕ, suc, ◌+◌, ◌-◌, ◌*◌, ◌/◌, ◌%◌, ◌^◌, ◌≤◌, ◌<◌}
use native.Mathlib.Decide.{dec_le, dec_lt}
use native.Mathlib.Nat.{mod-eq_of_lt, mod-lt, add-mul}
use native.Mathlib.Omega.{arith}
use borrow.Author.Tests.{lt-ltb, le-ltb}
use lib.Dec.{leb, ltb}
use lib.IntN.{ℤ, pos, negsuc, ◌+ℤ◌, ◌*ℤ◌, ◌-ℤ◌}
use lib.Pow.{pow_pos}
use Rattle.isa.specs.declared.Width.{Width}
use Rattle.isa.specs.declared.Width.TheVariants.{B, H, W, D}
use Rattle.isa.specs.Widths.{bytes}
use Rattle.element.specs.Value.{signed, wrap}
use Rattle.element.proofs.Diff.{Diff, diff-pos, diff-neg, diff-add, diff-minus, diff-to}
use Rattle.element.proofs.Views.{wrap-is}
use Rattle.plan.specs.Numbers.{address}
use Rattle.demands.specs.AtCounter.{AllInside, element_bytes, address_from}
use Rattle.demands.proofs.Reflects.{Reflects, likewise, le-reflects, and-reflects}

-- the sum that `address_from` takes modulo 2^64
module _ (x field n : ℕ) (small : n ≤ 8) where
  abbrev low : ℕ
  low = x + field * n

  abbrev high : ℕ
  high = x + field * n + 2 ^ 64 - 1024 * n

  from-pos : (k : ℕ) → wrap 64 (pos x +ℤ pos k *ℤ pos n) ≡ (x + k * n) % 2 ^ 64
  from-pos k =
      wrap-is 64 (diff-add (diff-pos x) (diff-pos (k * n))) ((x + k * n) % 2 ^ 64) 0 ((x + k * n) / 2 ^ 64)
      (mod-lt (x + k * n) (pow_pos 64)) (omega arith)

  -- a field that stands for z, 1,024 less
  from_less : (z : ℤ) → Diff z field 1024 → wrap 64 (pos x +ℤ z *ℤ pos n) ≡ high % 2 ^ 64
  from_less (pos k) d =
      let e : field * n ≡ 1024 * n + k * n = ap (λ y. y * n) d.is ∙ add-mul 1024 k n in
      wrap-is 64 (diff-add (diff-pos x) (diff-pos (k * n))) (high % 2 ^ 64) 1 (high / 2 ^ 64) (mod-lt high (pow_pos 64))
      (omega arith)
  from_less (negsuc k) d =
      let e : 1024 * n ≡ field * n + suc k * n = ap (λ y. y * n) d.is ∙ add-mul field (suc k) n in
      wrap-is 64 (diff-add (diff-pos x) (diff-neg (diff-pos (suc k * n)))) (high % 2 ^ 64) 1 (high / 2 ^ 64)
      (mod-lt high (pow_pos 64)) (omega arith)

  scaled-from : wrap 64 (pos x +ℤ signed 10 field *ℤ pos n) ≡ address_from x field n
  unfolding signed
  scaled-from = go (dec_lt field 512)
    where
      go : Dec (field < 512) → wrap 64 (pos x +ℤ signed 10 field *ℤ pos n) ≡ address_from x field n
      go (yes h) = rw (lt-ltb field 512 h) (from-pos field)
      go (no h) =
          rw (le-ltb field 512 (omega arith))
          (from_less (pos field -ℤ pos 1024) (diff-to (diff-minus (diff-pos field) (diff-pos 1024)) (omega arith)))

pub address-from : (df : Width) (field x : ℕ) → address df field x ≡ address_from x field (element_bytes df)
unfolding address
address-from B field x = scaled-from x field 1 (omega arith)
address-from H field x = scaled-from x field 2 (omega arith)
address-from W field x = scaled-from x field 4 (omega arith)
address-from D field x = scaled-from x field 8 (omega arith)

-- in a window that keeps its limit, all sixteen addresses are inside where the first and the last are
module _ (base len a : ℕ) (small : len ≤ 1048576) (ends : base + len ≤ 2 ^ 64) (below : a < 2 ^ 64) where
  all_held : (base ≤ a) × (a + 16 ≤ base + len) → AllInside base len a
  all_held h k l = let e : (a + k) % 2 ^ 64 ≡ a + k = mod-eq_of_lt (omega arith) in rw e (omega arith, omega arith)

  -- an access that passes 2^64 has an address 0, and the window one below it
  held : AllInside base len a → (base ≤ a) × (a + 16 ≤ base + len)
  held all = go (dec_le (2 ^ 64) (a + 15))
    where
      first : (base ≤ a) × (a < base + len)
      first = let e : (a + 0) % 2 ^ 64 ≡ a = omega arith in rw e at (all 0 (omega arith))

      go : Dec (2 ^ 64 ≤ a + 15) → (base ≤ a) × (a + 16 ≤ base + len)
      go (no h) =
          let e : (a + 15) % 2 ^ 64 ≡ a + 15 = mod-eq_of_lt (omega arith) in
          let last = rw e at (all 15 (omega arith)) in
          (first.0, omega (arith, last.1))
      go (yes h) =
          let e : (a + (2 ^ 64 - a)) % 2 ^ 64 ≡ 0 = omega arith in
          let zero = rw e at (all (2 ^ 64 - a) (omega arith)) in
          absurd (omega (arith, first.1, zero.0))

  pub all-inside : Reflects (leb base a && leb (a + 16) (base + len)) (AllInside base len a)
  all-inside = likewise all_held held (and-reflects _ _ (le-reflects base a) (le-reflects (a + 16) (base + len)))
