-- Shifts by the amounts in the elements of a word t: by one amount, or in steps, as bytes go, or one by one. The laws
-- of the steps are over any shift that does nothing for 0 and adds up, so that left and right are one.
use mathlib.Core.Path.{◌≡◌, sym, ap, ◌∙◌}
use mathlib.Core.Bool.{cond}
use Prim.Native.Nat.{ℕ, zero, suc, ◌+◌, ◌-◌, ◌*◌, ◌/◌, ◌%◌, ◌^◌, ◌<◌}
use native.Mathlib.Omega.{arith}
use native.Mathlib.Nat.{mod-one, div-one}
use lib.Bits.{bit_and}
use lib.Dec.{eqb}
use lib.Pow.{mod-pow-add, shr-shr}
use Rattle.isa.specs.declared.Width.{Width}
use Rattle.isa.specs.declared.Width.TheVariants.{B}
use Rattle.isa.specs.Widths.{bits}
use Rattle.bits.specs.Places.{bit_at}
use Rattle.bits.specs.Shifts.{sll}
use Rattle.bits.proofs.Fields.{bit-small}
use Rattle.vectors.specs.Register.{element}
use Rattle.vectors.proofs.ElementLaws.{element-below}
use Rattle.vectors.proofs.Sizes.{shares}
use Rattle.parallel.specs.Lanes.{Lanes, Each1, Each2, Each3}
use Rattle.parallel.proofs.Masked.{bit-times}
use Rattle.parallel.proofs.Words.{own, same-lanes, field-lanes}
use Rattle.parallel_bits.specs.Shift.{Shift}
use Rattle.parallel_bits.proofs.Amounts.{sll-none, sll-more}

pub to-left : (w : Width) → Shift w (sll (bits w))
to-left w = record { none = sll-none (bits w); more = sll-more (bits w) }

pub to-right : (w : Width) → Shift w (λ a k. a / 2 ^ k)
to-right w = record { none = λ a h. div-one a; more = shr-shr }

-- r is s shifted by the bits of t's elements below bit j; and r is x shifted by bit j of them
abbrev Done : ℕ → (ℕ → ℕ → ℕ) → ℕ → ℕ → ℕ → ℕ → Type 0
Done n act s t j r = Each2 n r (λ a b. act a (b % 2 ^ j)) s t

abbrev Step : ℕ → (ℕ → ℕ → ℕ) → ℕ → ℕ → ℕ → ℕ → Type 0
Step n act t j x r = Each2 n r (λ a b. act a (bit_at b j * 2 ^ j)) x t

-- a bit times ones is the mask for the bit
bit_mask : (b m : ℕ) → b < 2 → b * m ≡ cond (eqb b 0) 0 m
bit_mask zero m h = omega arith
bit_mask (suc zero) m h = omega arith
bit_mask (suc (suc b)) m h = absurd (omega arith)

-- the amount below bit j, and with bit j
more-bits : (b j : ℕ) → b % 2 ^ j + bit_at b j * 2 ^ j ≡ b % 2 ^ (j + 1)
unfolding bit_at
more-bits b j =
    omega (arith, mod-pow-add b 1 j) ∙ ap (λ p. b % 2 ^ p) (let e : 1 + j ≡ j + 1 = omega arith in e)

module _ (w : Width) where
  -- an amount that every element of t asks for
  pub alike : {r k : ℕ} (t : ℕ) (f : ℕ → ℕ → ℕ) → Lanes (bits w) r (λ i. f i k)
      → ((i : ℕ) → i < 64 / bits w → element (bits w) t i % bits w ≡ k)
      → Lanes (bits w) r (λ i. f i (element (bits w) t i % bits w))
  alike t f a e = same-lanes (shares w) a (λ i l. ap (f i) (sym (e i l)))

  -- ones in the elements where t has bit j
  pub mask_lanes : {u m : ℕ} (t j : ℕ) → t < 2 ^ 64 → j < bits w → Lanes (bits w) u (λ _. 1) → m ≡ 2 ^ bits w - 1
      → Each1 (bits w) (bit_and (t / 2 ^ j) u * m) (λ b. cond (eqb (bit_at b j) 0) 0 (2 ^ bits w - 1)) t
  unfolding bit_at
  mask_lanes t j h small unit e =
      let bit = field-lanes (shares w) (own (shares w) t h) 1 j (omega arith) unit in
      let low : (i : ℕ) → bit_at (element (bits w) t i) j < 2 = λ i. bit-small (element (bits w) t i) j in
      rw e (same-lanes (shares w) (bit-times w bit (λ i l. omega (arith, low i)))
      (λ i l. bit_mask (bit_at (element (bits w) t i) j) (2 ^ bits w - 1) (low i)))

module _ {w : Width} {act : ℕ → ℕ → ℕ} (shift : Shift w act) (s t : ℕ) where
  by_cases : (a b j : ℕ) → act a 0 ≡ a → b < 2 → cond (eqb b 0) a (act a (2 ^ j)) ≡ act a (b * 2 ^ j)
  by_cases a zero j e h = sym (ap (act a) (let z : 0 * 2 ^ j ≡ 0 = omega arith in z) ∙ e)
  by_cases a (suc zero) j e h = ap (act a) (omega arith)
  by_cases a (suc (suc b)) j e h = absurd (omega arith)

  pub stepped : {r x k : ℕ} (j : ℕ) → k ≡ 2 ^ j → Each1 (bits w) x (λ a. act a k) s
      → Each3 (bits w) r (λ b y z. cond (eqb (bit_at b j) 0) y z) t s x → Step (bits w) act t j s r
  stepped j e moved picked =
      same-lanes (shares w) picked (λ i l.
      let a = element (bits w) s i in
      let b = bit_at (element (bits w) t i) j in
      ap (cond (eqb b 0) a) (moved.at i l ∙ ap (act a) e)
      ∙ by_cases a b j (shift.none a (element-below (bits w) s i)) (bit-small (element (bits w) t i) j))

  next : {x r : ℕ} (j : ℕ) → Done (bits w) act s t j x → Step (bits w) act t j x r → Done (bits w) act s t (j + 1) r
  next j before step =
      same-lanes (shares w) step (λ i l.
      let a = element (bits w) s i in
      let b = element (bits w) t i in
      ap (λ z. act z (bit_at b j * 2 ^ j)) (before.at i l)
      ∙ shift.more a (b % 2 ^ j) (bit_at b j * 2 ^ j) ∙ ap (act a) (more-bits b j))

  first : s < 2 ^ 64 → Done (bits w) act s t 0 s
  first h =
      same-lanes (shares w) (own (shares w) s h) (λ i l.
      sym (ap (act (element (bits w) s i)) (mod-one (element (bits w) t i))
      ∙ shift.none (element (bits w) s i) (element-below (bits w) s i)))

  pub three : {x y r : ℕ} → s < 2 ^ 64 → Step (bits w) act t 0 s x → Step (bits w) act t 1 x y
      → Step (bits w) act t 2 y r → Done (bits w) act s t 3 r
  three h a b c = next 2 (next 1 (next 0 (first h) a) b) c

  -- the amounts modulo the width
  whole : {r : ℕ} (j : ℕ) → bits w ≡ 2 ^ j → Done (bits w) act s t j r
      → Each2 (bits w) r (λ a b. act a (b % bits w)) s t
  whole j e steps =
      same-lanes (shares w) steps (λ i l. ap (λ m. act (element (bits w) s i) (element (bits w) t i % m)) (sym e))

  module _ {x : ℕ} (low : Done (bits w) act s t 3 x) where
    pub bytes : w ≡ B → Each2 (bits w) x (λ a b. act a (b % bits w)) s t
    bytes e = whole 3 (ap bits e) low
