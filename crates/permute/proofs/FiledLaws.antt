-- The elements of registers in their file, and which of them a control chooses. Assumes nothing.
use mathlib.Core.Path.{◌≡◌, sym, ap, ◌∙◌}
use mathlib.Core.List.{List}
use Prim.Native.Nat.{ℕ, ◌+◌, ◌-◌, ◌*◌, ◌/◌, ◌%◌, ◌^◌, ◌≤◌, ◌<◌}
use native.Mathlib.Nat.{add_comm, mod-lt}
use native.Mathlib.Omega.{arith}
use borrow.Author.Tests.{eq-eqb}
use lib.ListN.{length}
use lib.Pow as pow
use Rattle.isa.specs.declared.Vreg.{Vreg}
use Rattle.isa.specs.declared.Width.{Width}
use Rattle.isa.specs.declared.Width.TheVariants.{B, H, W, D}
use Rattle.isa.specs.Widths.{bits, bytes}
use Rattle.memory.specs.Bytes.{part, number, AreBytes}
use Rattle.memory.specs.File.{register_at}
use Rattle.memory.proofs.Numbers.{number-below, number-parts, part_bytes}
use Rattle.memory.proofs.Parts.{length_part}
use Rattle.vectors.specs.Register.{element}
use Rattle.permute.proofs.ControlLaws.{told}
use Rattle.permute.proofs.SideLaws.{place-first, place-second}

-- ---- an element in the file

-- the number in the middle of one
middle : (a b c i n : ℕ) → a < 2 ^ i → b < 2 ^ n → (a + (b + c * 2 ^ n) * 2 ^ i) / 2 ^ i % 2 ^ n ≡ b
middle a b c i n ha hb =
    ap (λ z. z / 2 ^ i % 2 ^ n) (add_comm a ((b + c * 2 ^ n) * 2 ^ i))
    ∙ ap (λ z. z % 2 ^ n) (pow.high (b + c * 2 ^ n) i ha ∙ add_comm b (c * 2 ^ n)) ∙ pow.low c n hb

pub some : (w : Width) → 0 < 128 / bits w
some B = omega arith
some H = omega arith
some W = omega arith
some D = omega arith

module _ (file : List ℕ) (are : AreBytes file) (long : length file ≡ 512) where
  part-below : (at n : ℕ) → at + n ≤ 512 → number (part file at n) < 2 ^ (8 * n)
  part-below at n h =
      rw (length_part file at n (omega arith)) at (number-below (part file at n) (part_bytes file at n are))

  -- b bytes, of sixteen those from a on
  inner : (at a b : ℕ) → a + b ≤ 16 → at + 16 ≤ 512
      → number (part file at 16) / 2 ^ (8 * a) % 2 ^ (8 * b) ≡ number (part file (at + a) b)
  inner at a b h room =
      let rest = 16 - a - b in
      let all : 16 ≡ a + (b + rest) = omega arith in
      ap (λ z. number (part file at z) / 2 ^ (8 * a) % 2 ^ (8 * b)) all
      ∙ ap (λ z. z / 2 ^ (8 * a) % 2 ^ (8 * b)) (number-parts file at a (b + rest) (omega arith)
      ∙ ap (λ z. number (part file at a) + z * 2 ^ (8 * a)) (number-parts file (at + a) b rest (omega arith)))
      ∙ middle (number (part file at a)) (number (part file (at + a) b)) _ (8 * a) (8 * b)
      (part-below at a (omega arith)) (part-below (at + a) b (omega arith))

  eights : (w : Width) → bits w ≡ 8 * bytes w
  eights B = omega arith
  eights H = omega arith
  eights W = omega arith
  eights D = omega arith

  inside : (w : Width) (k : ℕ) → k < 128 / bits w → bytes w * k + bytes w ≤ 16
  inside B k h = omega arith
  inside H k h = omega arith
  inside W k h = omega arith
  inside D k h = omega arith

  element-filed : (w : Width) (r : Vreg) (k : ℕ) → r.0 < 32 → k < 128 / bits w
      → number (part file (16 * r.0 + bytes w * k) (bytes w)) ≡ element (bits w) (register_at file r) k
  unfolding element register_at
  element-filed w r k h l =
      let place : bits w * k ≡ 8 * (bytes w * k) = ap (λ z. z * k) (eights w) ∙ omega arith in
      rw (place, eights w) (sym (inner (16 * r.0) (bytes w * k) (bytes w) (inside w k l) (omega arith)))

  -- ---- the element that a control chooses

  even : (w : Width) (c : ℕ) → c / (128 / bits w) % 2 ≡ 0
      → c % (128 / bits w) ≡ c % 64 % (2 * (128 / bits w))
  even B c h = omega arith
  even H c h = omega arith
  even W c h = omega arith
  even D c h = omega arith

  odd : (w : Width) (c : ℕ) → (c / (128 / bits w) % 2 ≡ 0 → ⊥)
      → c % 64 % (2 * (128 / bits w)) ≡ 128 / bits w + c % (128 / bits w)
  odd B c h = omega arith
  odd H c h = omega arith
  odd W c h = omega arith
  odd D c h = omega arith

  module _ (w : Width) (s t : Vreg) (c : ℕ) (taken : c / 64 % 4 ≡ 0) where
    abbrev m : ℕ
    m = 128 / bits w

    pub filed-first : t.0 < 32 → c / m % 2 ≡ 0
        → number (part file (16 * t.0 + bytes w * (c % m)) (bytes w))
        ≡ told (bits w) (register_at file s) (register_at file t) c
    filed-first h e =
        rw (eq-eqb (c / 64 % 4) 0 taken)
        (element-filed w t (c % m) h (mod-lt c (some w))
        ∙ place-first (bits w) (register_at file s) (register_at file t) (c % m) (even w c e) (mod-lt c (some w)))

    pub filed-second : s.0 < 32 → (c / m % 2 ≡ 0 → ⊥)
        → number (part file (16 * s.0 + bytes w * (c % m)) (bytes w))
        ≡ told (bits w) (register_at file s) (register_at file t) c
    filed-second h e =
        rw (eq-eqb (c / 64 % 4) 0 taken)
        (element-filed w s (c % m) h (mod-lt c (some w))
        ∙ place-second (bits w) (register_at file s) (register_at file t) (c % m) (odd w c e))
