-- A test's answer is the top bit of an element: clear for yes. Masks and picks by it, and the order of two elements as
-- one.
use mathlib.Core.Path.{◌≡◌, refl, sym, ap, ap₂, ◌∙◌}
use mathlib.Core.Bool.{Bool, true, false, not, cond}
use Prim.Native.Nat.{ℕ, ◌+◌, ◌-◌, ◌*◌, ◌/◌, ◌%◌, ◌^◌, ◌≤◌, ◌<◌, min, max}
use native.Mathlib.Omega.{arith}
use native.Mathlib.Nat.{mod-eq_of_lt}
use lib.Bits.{bit_and, bit_or, bit_xor}
use lib.Bits.{and_mask, and_zero_r, or_zero_r, or_zero_l, and_shr, or_shr, xor_self, xor_add_and, and_le_l, and_le_r}
use lib.Dec.{ltb, eqb}
use borrow.Author.Tests.{lt-ltb, le-ltb, eq-eqb, ne_eqb, eqb-true, eqb-false}
use lib.IntN.{ℤ}
use lib.Pow.{split}
use lib.Signed.{lt_z, le_z}
use Rattle.element.specs.Value.{top}
use Rattle.element.proofs.Diff.{by_order, by-test, same_test, le_z-not}
use Rattle.element.proofs.Widths.{Size}
use Rattle.vectors.specs.Register.{element}
use Rattle.parallel.specs.Lanes.{Lanes, Each3, Tests}
use Rattle.parallel.proofs.TopBit.{div-low, div-high, mod_low, mod-high, below_top, by-tops, and-top}

module _ (n : ℕ) (size : Size n) where
  -- an element from its top bit
  pub clear : {z : ℕ} → z / top n ≡ 0 → z < top n
  clear {z} e = let s = split z (n - 1) in omega (arith, below_top n size z, (rw e at s))

  pub set : {z : ℕ} → z / top n ≡ 1 → top n ≤ z
  set {z} e = let s = split z (n - 1) in omega (arith, (rw e at s))

  pub filled-lane : {z : ℕ} → z < 2 ^ n → z / top n * (2 ^ n - 1) ≡ cond (ltb z (top n)) 0 (2 ^ n - 1)
  filled-lane {z} hz = by-test (λ y. z / top n * (2 ^ n - 1) ≡ y) z (top n)
      (λ h. rw (div-low n size h) (omega arith)) (λ h. rw (div-high n size h hz) (omega arith))

  pub picked-lane : (b : Bool) {s t : ℕ} → s < 2 ^ n → t < 2 ^ n
      → bit_or (bit_and s (cond b 0 (2 ^ n - 1))) (bit_and t (2 ^ n - 1 - cond b 0 (2 ^ n - 1))) ≡ cond b t s
  picked-lane true {s} {t} hs ht =
      ap₂ bit_or (and_zero_r s)
      (ap (bit_and t) (let e : 2 ^ n - 1 - 0 ≡ 2 ^ n - 1 = omega arith in e) ∙ and_mask t n ∙ mod-eq_of_lt ht)
      ∙ or_zero_l t
  picked-lane false {s} {t} hs ht =
      ap₂ bit_or (and_mask s n ∙ mod-eq_of_lt hs)
      (ap (bit_and t) (let e : 2 ^ n - 1 - (2 ^ n - 1) ≡ 0 = omega arith in e) ∙ and_zero_r t)
      ∙ or_zero_r s

  abbrev gauge : ℕ → ℕ → ℕ
  gauge f g = bit_or (bit_and f (2 ^ n - 1 - g)) (bit_and (bit_or f (2 ^ n - 1 - g)) (f % top n + top n - g % top n))

  -- f is below g: the carry out of f + (2^n - 1 - g) + 1
  module _ {f g : ℕ} (hf : f < 2 ^ n) (hg : g < 2 ^ n) where
    carry : {p q r : ℕ} → f / top n ≡ p → (2 ^ n - 1 - g) / top n ≡ q → (f % top n + top n - g % top n) / top n ≡ r
        → gauge f g / top n ≡ bit_or (bit_and p q) (bit_and (bit_or p q) r)
    carry ep eq er =
        or_shr (bit_and f (2 ^ n - 1 - g)) (bit_and (bit_or f (2 ^ n - 1 - g)) (f % top n + top n - g % top n)) (n - 1)
        ∙ ap₂ bit_or (and_shr f (2 ^ n - 1 - g) (n - 1) ∙ ap₂ bit_and ep eq)
        (and_shr (bit_or f (2 ^ n - 1 - g)) (f % top n + top n - g % top n) (n - 1)
        ∙ ap₂ bit_and (or_shr f (2 ^ n - 1 - g) (n - 1) ∙ ap₂ bit_or ep eq) er)

    yes : gauge f g / top n ≡ 0 → f < g → ltb (gauge f g) (top n) ≡ ltb f g
    yes e h = same_test (gauge f g) (top n) f g (λ l. h) (λ l. absurd (omega (arith, clear e)))

    no : gauge f g / top n ≡ 1 → g ≤ f → ltb (gauge f g) (top n) ≡ ltb f g
    no e h = same_test (gauge f g) (top n) f g (λ l. absurd (omega (arith, set e))) (λ l. h)

    more : f % top n < g % top n → (f % top n + top n - g % top n) / top n ≡ 0
    more h = div-low n size (omega (arith, below_top n size g))

    less : g % top n ≤ f % top n → (f % top n + top n - g % top n) / top n ≡ 1
    less h = div-high n size (omega arith) (omega (arith, size, below_top n size f))

    pub compared-lane : ltb (gauge f g) (top n) ≡ ltb f g
    compared-lane = by-tops n size hf hg
        (λ a b. by_order (f % top n) (g % top n)
        (λ h. yes (carry (div-low n size a) (div-high n size (omega (arith, size)) (omega arith)) (more h))
        (omega (arith, mod_low n size a, mod_low n size b)))
        (λ h. no (carry (div-low n size a) (div-high n size (omega (arith, size)) (omega arith)) (less h))
        (omega (arith, mod_low n size a, mod_low n size b))))
        (λ a b. by_order (f % top n) (g % top n)
        (λ h. yes (carry (div-low n size a) (div-low n size (omega (arith, size))) (more h)) (omega arith))
        (λ h. yes (carry (div-low n size a) (div-low n size (omega (arith, size))) (less h)) (omega arith)))
        (λ a b. by_order (f % top n) (g % top n)
        (λ h. no (carry (div-high n size a hf) (div-high n size (omega (arith, size)) (omega arith)) (more h))
        (omega arith))
        (λ h. no (carry (div-high n size a hf) (div-high n size (omega (arith, size)) (omega arith)) (less h))
        (omega arith)))
        (λ a b. by_order (f % top n) (g % top n)
        (λ h. yes (carry (div-high n size a hf) (div-low n size (omega (arith, size))) (more h))
        (omega (arith, mod-high n size a hf, mod-high n size b hg)))
        (λ h. no (carry (div-high n size a hf) (div-low n size (omega (arith, size))) (less h))
        (omega (arith, mod-high n size a hf, mod-high n size b hg))))

  pub bit-small : {z : ℕ} → z < 2 ^ n → z / top n ≤ 1
  bit-small {z} hz =
      by_order z (top n) (λ h. omega (arith, div-low n size h)) (λ h. omega (arith, div-high n size h hz))

  -- the top bit alone
  pub top-test : {z : ℕ} → z < 2 ^ n → eqb (bit_and z (top n)) 0 ≡ ltb z (top n)
  top-test {z} hz = by_order z (top n)
      (λ h. eq-eqb (bit_and z (top n)) 0 (and-top n size hz ∙ rw (div-low n size h) (omega arith))
      ∙ sym (lt-ltb z (top n) h))
      (λ h. let one = and-top n size hz ∙ ap (λ q. q * top n) (div-high n size h hz) in
      ne_eqb (bit_and z (top n)) 0 (λ e. omega (arith, size.some)) ∙ sym (le-ltb z (top n) h))

-- what masks and equality say of one element
pub no_ones : (m : ℕ) {b p : Bool} → b ≡ p → m - cond b 0 m ≡ cond p m 0
no_ones m {b} {p} e = ap (λ x. m - cond x 0 m) e ∙ go p
  where
    go : (x : Bool) → m - cond x 0 m ≡ cond x m 0
    go true = omega arith
    go false = omega arith

pub min-is : (f g : ℕ) → cond (ltb f g) f g ≡ min f g
min-is f g = by-test (λ y. y ≡ min f g) f g (λ h. omega arith) (λ h. omega arith)

pub max-is : (f g : ℕ) → cond (ltb f g) g f ≡ max f g
max-is f g = by-test (λ y. y ≡ max f g) f g (λ h. omega arith) (λ h. omega arith)

pub nonzero-lane : (f : ℕ) → ltb 0 f ≡ not (eqb f 0)
nonzero-lane f = by_order 0 f
    (λ h. lt-ltb 0 f h ∙ sym (ap not (ne_eqb f 0 (omega arith))))
    (λ h. le-ltb 0 f h ∙ sym (ap not (eq-eqb f 0 (omega arith))))

equal_lane : (f g : ℕ) → ltb 0 (bit_xor f g) ≡ not (eqb f g)
equal_lane f g = go (eqb f g) refl
  where
    go : (b : Bool) → eqb f g ≡ b → ltb 0 (bit_xor f g) ≡ not b
    go true e = ap (λ x. ltb 0 (bit_xor f x)) (sym (eqb-true f g e)) ∙ ap (ltb 0) (xor_self f)
    go false e =
        lt-ltb 0 (bit_xor f g)
        (by_order 0 (bit_xor f g) (λ h. h)
        (λ h. absurd (eqb-false f g e (omega (arith, xor_add_and f g, and_le_l f g, and_le_r f g)))))

pub le-mask : (m : ℕ) (y z : ℤ) {b : Bool} → b ≡ lt_z z y → cond b 0 m ≡ cond (le_z y z) m 0
le-mask m y z e = ap (λ x. cond x 0 m) e ∙ go (lt_z z y) ∙ ap (λ x. cond x m 0) (sym (le_z-not y z))
  where
    go : (x : Bool) → cond x 0 m ≡ cond (not x) m 0
    go true = refl
    go false = refl

pub equal-mask : (m f g : ℕ) {b : Bool} → b ≡ ltb 0 (bit_xor f g) → cond b 0 m ≡ cond (eqb f g) m 0
equal-mask m f g e = ap (λ x. cond x 0 m) (e ∙ equal_lane f g) ∙ go (eqb f g)
  where
    go : (x : Bool) → cond (not x) 0 m ≡ cond x m 0
    go true = refl
    go false = refl

-- the order of two words' elements, by what the elements are; and a pick by what a test says
pub order-of : {n z x y : ℕ} {f g : ℕ → ℕ} → Tests n z (λ i. ltb (element n x i) (element n y i))
    → Lanes n x f → Lanes n y g → Tests n z (λ i. ltb (f i) (g i))
order-of e a b = record { answer = λ i l. e.answer i l ∙ ap₂ ltb (a.at i l) (b.at i l) }

pub picked-by : {n r z : ℕ} (s t : ℕ) {p : ℕ → Bool} → Each3 n r (λ a y x. cond (ltb a (top n)) y x) z s t → Tests n z p
    → Lanes n r (λ i. cond (p i) (element n s i) (element n t i))
picked-by {n} s t a e = record {
  below = a.below;
  at = λ i l. a.at i l ∙ ap (λ b. cond b (element n s i) (element n t i)) (e.answer i l);
}
