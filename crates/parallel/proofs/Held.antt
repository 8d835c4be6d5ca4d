-- Sums and differences that are held to a range, by the sign of what wraps.
use mathlib.Core.Path.{◌≡◌, refl, sym, ap, ap₂, ◌∙◌}
use mathlib.Core.Bool.{cond}
use Prim.Native.Nat.{ℕ, ◌+◌, ◌-◌, ◌/◌, ◌%◌, ◌^◌, ◌≤◌, ◌<◌, min}
use native.Mathlib.Omega.{arith}
use borrow.Author.Tests.{lt-ltb, le-ltb}
use lib.Bits.{bit_and, bit_xor, and_shr, xor_shr, xor_zero_r}
use lib.Dec.{ltb}
use lib.IntN.{pos, ◌-ℤ◌}
use Rattle.element.specs.declared.Reading.TheVariants.{Unsigned, Signed}
use Rattle.element.specs.Value.{top, wrap, magnitude}
use Rattle.element.specs.Views.{flip}
use Rattle.element.proofs.Diff.{by_order, by-test, diff-pos, diff-minus}
use Rattle.element.proofs.Views.{mod-is, wrap-is, flip_up, flip_down, magnitude-low, magnitude-high}
use Rattle.element.proofs.Widths.{Size}
use Rattle.linear.specs.Sums.{addv, subv, adds, subs, subsus_u, subsuu_s}
use Rattle.linear.proofs.Forms.{adds-form, subs-form, subsus_u-form, subsuu_s-form}
use Rattle.parallel.proofs.TopBit.{div-low, div-high, by-tops, xor_ones}
use Rattle.parallel.proofs.Tested.{clear, set}

up_step : (f g h m y : ℕ) {z : ℕ} → z ≡ min (f + 0 - 0) m → f ≤ m → y + g ≡ h → min (z + y - 0) m ≡ min (f + h - g) m
up_step f g h m y ez le e = omega arith

down_step : (f g h m x : ℕ) {z : ℕ} → z ≡ min (f + 0 - x) m → x + h ≡ g → min (z + 0 - 0) m ≡ min (f + h - g) m
down_step f g h m x ez e = omega arith

two_steps : (f g h m x y : ℕ) → f ≤ m → x ≡ g - min g h → y ≡ h - min g h → {z : ℕ} → z ≡ min (f + 0 - x) m
    → min (z + y - 0) m ≡ min (f + h - g) m
two_steps f g h m x y le ex ey ez = by_order g h
    (λ l. let zero : x ≡ 0 = omega arith in let some : y + g ≡ h = omega arith in
    up_step f g h m y (rw zero at ez) le some)
    (λ l. let zero : y ≡ 0 = omega arith in let some : x + h ≡ g = omega arith in rw zero (down_step f g h m x ez some))

-- a pick by the top bits of two differences: where both are set, the limit
module _ (n : ℕ) (size : Size n) (a b c d r limit : ℕ) where
  sign : (p q u v : ℕ) → a / top n ≡ p → b / top n ≡ q → c / top n ≡ u → d / top n ≡ v
      → bit_and (bit_xor a b) (bit_xor c d) / top n ≡ bit_and (bit_xor p q) (bit_xor u v)
  sign p q u v ep eq eu ev =
      and_shr (bit_xor a b) (bit_xor c d) (n - 1)
      ∙ ap₂ bit_and (xor_shr a b (n - 1) ∙ ap₂ bit_xor ep eq) (xor_shr c d (n - 1) ∙ ap₂ bit_xor eu ev)

  keep : (p q u v : ℕ) → a / top n ≡ p → b / top n ≡ q → c / top n ≡ u → d / top n ≡ v
      → bit_and (bit_xor p q) (bit_xor u v) ≡ 0
      → cond (ltb (bit_and (bit_xor a b) (bit_xor c d)) (top n)) r limit ≡ r
  keep p q u v ep eq eu ev z =
      ap (λ x. cond x r limit)
      (lt-ltb (bit_and (bit_xor a b) (bit_xor c d)) (top n) (clear n size (sign p q u v ep eq eu ev ∙ z)))

  cut : (p q u v : ℕ) → a / top n ≡ p → b / top n ≡ q → c / top n ≡ u → d / top n ≡ v
      → bit_and (bit_xor p q) (bit_xor u v) ≡ 1
      → cond (ltb (bit_and (bit_xor a b) (bit_xor c d)) (top n)) r limit ≡ limit
  cut p q u v ep eq eu ev z =
      ap (λ x. cond x r limit)
      (le-ltb (bit_and (bit_xor a b) (bit_xor c d)) (top n) (set n size (sign p q u v ep eq eu ev ∙ z)))

module _ (n : ℕ) (size : Size n) {f g : ℕ} (hf : f < 2 ^ n) (hg : g < 2 ^ n) where
  low : {x : ℕ} → x < top n → x / top n ≡ 0
  low h = div-low n size h

  high : {x : ℕ} → top n ≤ x → x < 2 ^ n → x / top n ≡ 1
  high h l = div-high n size h l

  down : {x : ℕ} → top n ≤ x → flip n x + top n ≡ x
  down {x} h = omega (arith, flip_down n x h)

  -- what wraps, with nothing taken off
  sum-once : {r : ℕ} → r ≡ (f + g) % 2 ^ n → f + g < 2 ^ n → r ≡ f + g
  sum-once e h = e ∙ mod-is (f + g) (2 ^ n) (f + g) 0 0 h (omega arith)

  sum_twice : {r : ℕ} → r ≡ (f + g) % 2 ^ n → 2 ^ n ≤ f + g → r + 2 ^ n ≡ f + g
  sum_twice e h = let q = e ∙ mod-is (f + g) (2 ^ n) (f + g - 2 ^ n) 0 1 (omega arith) (omega arith) in omega arith

  less-once : {r : ℕ} → r ≡ wrap n (pos f -ℤ pos g) → g ≤ f → r + g ≡ f
  less-once e h =
      let q = e ∙ wrap-is n (diff-minus (diff-pos f) (diff-pos g)) (f - g) 0 0 (omega arith) (omega arith) in
      omega arith

  less-twice : {r : ℕ} → r ≡ wrap n (pos f -ℤ pos g) → f < g → r + g ≡ f + 2 ^ n
  less-twice e h =
      let q = e ∙ wrap-is n (diff-minus (diff-pos f) (diff-pos g)) (f + 2 ^ n - g) 1 0 (omega arith) (omega arith) in
      omega arith

  -- the held sum, from u, which it is with its top bit turned
  sum_is : (u : ℕ) → min (flip n f + flip n g - top n) (2 ^ n - 1) ≡ u → adds Signed n f g ≡ flip n u
  sum_is u e = adds-form n size Signed (record { first = hf; second = hg }) ∙ ap (flip n) e

  difference-is : (u : ℕ) → min (flip n f + top n - flip n g) (2 ^ n - 1) ≡ u → subs Signed n f g ≡ flip n u
  difference-is u e = subs-form n size Signed (record { first = hf; second = hg }) ∙ ap (flip n) e

  pub adds-lane : (r : ℕ) → r < 2 ^ n → r ≡ addv n f g
      → cond (ltb (bit_and (bit_xor f r) (bit_xor g r)) (top n)) r (f / top n + (top n - 1)) ≡ adds Signed n f g
  unfolding addv
  adds-lane r hr er =
      let kept = keep n size f r g r r (f / top n + (top n - 1)) in
      let held = cut n size f r g r r (f / top n + (top n - 1)) in
      by-tops n size hf hg (λ a b.
      let e = sum-once er (omega (arith, size)) in
      by_order r (top n)
      (λ h. kept 0 0 0 0 (low a) (low h) (low b) (low h) refl
      ∙ sym (sum_is (r + top n) (omega (arith, size, flip_up n f a, flip_up n g b))
      ∙ flip_down n (r + top n) (omega arith) ∙ omega arith))
      (λ h. held 0 1 0 1 (low a) (high h hr) (low b) (high h hr) refl
      ∙ sym (sum_is (2 ^ n - 1) (omega (arith, size, flip_up n f a, flip_up n g b))
      ∙ flip_down n (2 ^ n - 1) (omega (arith, size)) ∙ omega (arith, size, low a))))
      (λ a b. by_order (f + g) (2 ^ n)
      (λ h. let e = sum-once er h in
      kept 0 1 1 1 (low a) (high (omega arith) hr) (high b hg) (high (omega arith) hr) refl
      ∙ sym (sum_is (r - top n) (omega (arith, size, flip_up n f a, down b))
      ∙ flip_up n (r - top n) (omega (arith, size)) ∙ omega arith))
      (λ h. let e = sum_twice er h in
      kept 0 0 1 0 (low a) (low (omega (arith, size))) (high b hg) (low (omega (arith, size))) refl
      ∙ sym (sum_is (r + top n) (omega (arith, size, flip_up n f a, down b)) ∙ flip_down n (r + top n) (omega arith)
      ∙ omega arith)))
      (λ a b. by_order (f + g) (2 ^ n)
      (λ h. let e = sum-once er h in
      kept 1 1 0 1 (high a hf) (high (omega arith) hr) (low b) (high (omega arith) hr) refl
      ∙ sym (sum_is (r - top n) (omega (arith, size, down a, flip_up n g b))
      ∙ flip_up n (r - top n) (omega (arith, size)) ∙ omega arith))
      (λ h. let e = sum_twice er h in
      kept 1 0 0 0 (high a hf) (low (omega (arith, size))) (low b) (low (omega (arith, size))) refl
      ∙ sym (sum_is (r + top n) (omega (arith, size, down a, flip_up n g b)) ∙ flip_down n (r + top n) (omega arith)
      ∙ omega arith)))
      (λ a b.
      let e = sum_twice er (omega (arith, size)) in
      by_order r (top n)
      (λ h. held 1 0 1 0 (high a hf) (low h) (high b hg) (low h) refl
      ∙ sym (sum_is 0 (omega (arith, size, down a, down b)) ∙ flip_up n 0 size.some
      ∙ omega (arith, size, high a hf)))
      (λ h. kept 1 1 1 1 (high a hf) (high h hr) (high b hg) (high h hr) refl
      ∙ sym (sum_is (r - top n) (omega (arith, size, down a, down b)) ∙ flip_up n (r - top n) (omega (arith, size))
      ∙ omega arith)))

  pub subs-lane : (r : ℕ) → r < 2 ^ n → r ≡ subv n f g
      → cond (ltb (bit_and (bit_xor f g) (bit_xor f r)) (top n)) r (f / top n + (top n - 1)) ≡ subs Signed n f g
  unfolding subv
  subs-lane r hr er =
      let kept = keep n size f g f r r (f / top n + (top n - 1)) in
      let held = cut n size f g f r r (f / top n + (top n - 1)) in
      by-tops n size hf hg
      (λ a b. by_order f g
      (λ h. let e = less-twice er h in
      kept 0 0 0 1 (low a) (low b) (low a) (high (omega (arith, size)) hr) refl
      ∙ sym (difference-is (r - top n) (omega (arith, size, flip_up n f a, flip_up n g b))
      ∙ flip_up n (r - top n) (omega (arith, size)) ∙ omega (arith, size)))
      (λ h. let e = less-once er h in
      kept 0 0 0 0 (low a) (low b) (low a) (low (omega arith)) refl
      ∙ sym (difference-is (r + top n) (omega (arith, size, flip_up n f a, flip_up n g b))
      ∙ flip_down n (r + top n) (omega arith) ∙ omega arith)))
      (λ a b. let e = less-twice er (omega arith) in
      by_order r (top n)
      (λ h. kept 0 1 0 0 (low a) (high b hg) (low a) (low h) refl
      ∙ sym (difference-is (r + top n) (omega (arith, size, flip_up n f a, down b))
      ∙ flip_down n (r + top n) (omega arith) ∙ omega arith))
      (λ h. held 0 1 0 1 (low a) (high b hg) (low a) (high h hr) refl
      ∙ sym (difference-is (2 ^ n - 1) (omega (arith, size, flip_up n f a, down b))
      ∙ flip_down n (2 ^ n - 1) (omega (arith, size)) ∙ omega (arith, size, low a))))
      (λ a b. let e = less-once er (omega arith) in
      by_order r (top n)
      (λ h. held 1 0 1 0 (high a hf) (low b) (high a hf) (low h) refl
      ∙ sym (difference-is 0 (omega (arith, size, down a, flip_up n g b)) ∙ flip_up n 0 size.some
      ∙ omega (arith, size, high a hf)))
      (λ h. kept 1 0 1 1 (high a hf) (low b) (high a hf) (high h hr) refl
      ∙ sym (difference-is (r - top n) (omega (arith, size, down a, flip_up n g b))
      ∙ flip_up n (r - top n) (omega (arith, size)) ∙ omega arith)))
      (λ a b. by_order f g
      (λ h. let e = less-twice er h in
      kept 1 1 1 1 (high a hf) (high b hg) (high a hf) (high (omega (arith, size)) hr) refl
      ∙ sym (difference-is (r - top n) (omega (arith, size, down a, down b))
      ∙ flip_up n (r - top n) (omega (arith, size)) ∙ omega (arith, size)))
      (λ h. let e = less-once er h in
      kept 1 1 1 0 (high a hf) (high b hg) (high a hf) (low (omega (arith, size))) refl
      ∙ sym (difference-is (r + top n) (omega (arith, size, down a, down b)) ∙ flip_down n (r + top n) (omega arith)
      ∙ omega arith)))

  pub magnitude-lane : bit_xor f (cond (ltb f (top n)) 0 (2 ^ n - 1)) + f / top n ≡ magnitude n f
  magnitude-lane = by_order f (top n)
      (λ h. rw (lt-ltb f (top n) h) (omega (arith, xor_zero_r f, low h, magnitude-low n size h)))
      (λ h. rw (le-ltb f (top n) h) (omega (arith, xor_ones n size hf, high h hf, magnitude-high n size h hf)))

  pub magnitude-below : magnitude n f < 2 ^ n
  magnitude-below = by_order f (top n)
      (λ h. omega (arith, magnitude-low n size h)) (λ h. omega (arith, size, magnitude-high n size h hf))

  pub subsus-lane : cond (ltb g (top n)) (subs Unsigned n f g) (adds Unsigned n f (magnitude n g)) ≡ subsus_u n f g
  subsus-lane =
      let e = subsus_u-form n size (record { first = hf; second = hg }) in
      by-test (λ y. y ≡ subsus_u n f g) g (top n)
      (λ h. omega (arith, subs-form n size Unsigned (record { first = hf; second = hg }), flip_up n g h))
      (λ h. adds-form n size Unsigned
      (record { first = hf; second = let b = magnitude-high n size h hg in omega (arith, size) })
      ∙ omega (arith, size, down h, magnitude-high n size h hg))

  -- s + top - t in two steps, of which one does nothing
  pub subsuu-lane : (x y : ℕ) → x ≡ g - min g (top n) → y ≡ top n - min g (top n)
      → flip n (adds Unsigned n (subs Unsigned n f x) y) ≡ subsuu_s n f g
  subsuu-lane x y ex ey =
      let hx : x < 2 ^ n = omega arith in
      let hy : y < 2 ^ n = omega (arith, size) in
      let s = subs-form n size Unsigned (record { first = hf; second = hx }) in
      let hs : subs Unsigned n f x < 2 ^ n = omega (arith, s, size) in
      sym (subsuu_s-form n size (record { first = hf; second = hg })
      ∙ ap (flip n)
      (sym (adds-form n size Unsigned (record { first = hs; second = hy })
      ∙ two_steps f g (top n) (2 ^ n - 1) x y (omega arith) ex ey s)))
