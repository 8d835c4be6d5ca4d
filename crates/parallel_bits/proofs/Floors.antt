-- SRL, SRA and their rounded forms. A negative element is shifted with its bits the other way round; a shifted element
-- is rounded as a view.
use mathlib.Core.Path.{◌≡◌, refl, sym, ap, ◌∙◌}
use mathlib.Core.Bool.{cond}
use Prim.Native.Nat.{ℕ, ◌+◌, ◌-◌, ◌*◌, ◌/◌, ◌%◌, ◌^◌, ◌≤◌, ◌<◌}
use native.Mathlib.Omega.{arith}
use native.Mathlib.Nat.{div-add-mod', div-lt_iff_lt-mul, mod-lt, zero-div}
use lib.Bits.{bit_xor, xor_zero_r}
use lib.Dec.{ltb}
use lib.Pow.{pow_pos, shr_le}
use lib.Pow as pow
use Rattle.isa.specs.declared.Width.{Width}
use Rattle.isa.specs.Widths.{bits}
use Rattle.element.specs.declared.Reading.{Reading}
use Rattle.element.specs.declared.Reading.TheVariants.{Unsigned, Signed}
use Rattle.element.specs.Value.{top}
use Rattle.element.specs.Views.{flip, view, bias}
use Rattle.element.proofs.Diff.{by-test, by_order, diff-shr, diff-to}
use Rattle.element.proofs.Readings.{value-diff}
use Rattle.element.proofs.Views.{wrap-is, flip_up, flip_down}
use Rattle.element.proofs.Widths.{Size, size}
use Rattle.bits.specs.Shifts.{last_out, shift_right, shift_rounded}
use Rattle.bits.proofs.Floors.{shift_right-form, shift_rounded-form, shifted-below, rounded-below}
use Rattle.vectors.specs.Register.{element}
use Rattle.vectors.proofs.ElementLaws.{element-below}
use Rattle.vectors.proofs.Sizes.{shares}
use Rattle.parallel.specs.Lanes.{Lanes, Each1}
use Rattle.parallel.proofs.TopBit.{xor_ones}
use Rattle.parallel.proofs.Words.{own, same-lanes, sum-lanes, xor-lanes}
use Rattle.parallel_bits.proofs.Amounts.{whole}

module _ (n : ℕ) (size : Size n) (s k : ℕ) (below : s < 2 ^ n) (small : k < n) where
  srl-lane : s / 2 ^ k ≡ shift_right Unsigned n s k
  srl-lane = sym (shift_right-form n size Unsigned s k below small ∙ omega (arith, zero-div (2 ^ k)))

  not_negative : s < top n → shift_right Signed n s k ≡ s / 2 ^ k
  unfolding shift_right
  not_negative h =
      let d = diff-to {c = s} {d = 0 * 2 ^ k} (value-diff n size Signed below) (omega (arith, flip_up n s h)) in
      wrap-is n (diff-shr (2 ^ k) (pow_pos k) d) (s / 2 ^ k) 0 0 (omega (arith, shr_le s k)) (omega arith)

  part : s / 2 ^ k < 2 ^ (n - k)
  part = (div-lt_iff_lt-mul (pow_pos k)).1 (omega (arith, whole n s k small))

  -- the other bits of s, shifted, are the other bits of s shifted
  inverse-shr : (2 ^ n - 1 - s) / 2 ^ k ≡ 2 ^ (n - k) - 1 - s / 2 ^ k
  inverse-shr =
      let q = 2 ^ (n - k) - 1 - s / 2 ^ k in
      let sum : q + 1 + s / 2 ^ k ≡ 2 ^ (n - k) = omega (arith, part) in
      let e : 2 ^ n - 1 - s ≡ q * 2 ^ k + (2 ^ k - 1 - s % 2 ^ k) =
      omega (arith, ap (λ z. z * 2 ^ k) sum, whole n s k small, div-add-mod' s (2 ^ k), mod-lt s (pow_pos k)) in
      ap (λ z. z / 2 ^ k) e ∙ pow.high q k (omega (arith, pow_pos k))

  negative : top n ≤ s → shift_right Signed n s k ≡ 2 ^ n - 1 - (2 ^ n - 1 - s) / 2 ^ k
  unfolding shift_right
  negative h =
      let e = whole n s k small in
      let d = diff-to {c = s} {d = 2 ^ (n - k) * 2 ^ k} (value-diff n size Signed below)
      (omega (arith, size, flip_down n s h)) in
      wrap-is n (diff-shr (2 ^ k) (pow_pos k) d) (2 ^ n - 1 - (2 ^ n - 1 - s) / 2 ^ k) 1 0 (omega (arith, pow_pos n))
      (omega (arith, inverse-shr, part, shr_le (2 ^ n - 1 - s) k))

  sra-lane : (m : ℕ) → m ≡ cond (ltb s (top n)) 0 (2 ^ n - 1)
      → bit_xor (bit_xor s m / 2 ^ k) m ≡ shift_right Signed n s k
  sra-lane m e = rw e (by-test (λ x. bit_xor (bit_xor s x / 2 ^ k) x ≡ shift_right Signed n s k) s (top n)
      (λ h. xor_zero_r (bit_xor s 0 / 2 ^ k) ∙ ap (λ z. z / 2 ^ k) (xor_zero_r s) ∙ sym (not_negative h))
      (λ h. ap (λ z. bit_xor (z / 2 ^ k) (2 ^ n - 1)) (xor_ones n size below)
      ∙ xor_ones n size {x = (2 ^ n - 1 - s) / 2 ^ k} (omega (arith, shr_le (2 ^ n - 1 - s) k, pow_pos n))
      ∙ sym (negative h)))

-- words of shifted elements, by an amount for each element
module _ (w : Width) (s : ℕ) (by : ℕ → ℕ) (small : (i : ℕ) → by i < bits w) where
  pub srl-lanes : {r : ℕ} → Lanes (bits w) r (λ i. element (bits w) s i / 2 ^ by i)
      → Lanes (bits w) r (λ i. shift_right Unsigned (bits w) (element (bits w) s i) (by i))
  srl-lanes moved = same-lanes (shares w) moved (λ i l.
      srl-lane (bits w) (size w) (element (bits w) s i) (by i) (element-below (bits w) s i) (small i))

  pub sra-lanes : {m q : ℕ} → s < 2 ^ 64
      → Each1 (bits w) m (λ a. cond (ltb a (top (bits w))) 0 (2 ^ bits w - 1)) s
      → Lanes (bits w) q (λ i. element (bits w) (bit_xor s m) i / 2 ^ by i)
      → Lanes (bits w) (bit_xor q m) (λ i. shift_right Signed (bits w) (element (bits w) s i) (by i))
  sra-lanes {m} h mask moved =
      let n = bits w in
      let share = shares w in
      let turned = xor-lanes share (own share s h) (own share m mask.below) in
      same-lanes share (xor-lanes share moved (own share m mask.below))
      (λ i l. ap (λ x. bit_xor (x / 2 ^ by i) (element n m i)) (turned.at i l)
      ∙ sra-lane n (size w) (element n s i) (by i) (element-below n s i) (small i) (element n m i) (mask.at i l))

-- the view of a view is the element
view-view : (n : ℕ) → Size n → (g : Reading) {u : ℕ} → u < 2 ^ n → view g n (view g n u) ≡ u
view-view n size Unsigned h = refl
view-view n size Signed {u} h =
    by_order u (top n)
    (λ l. ap (flip n) (flip_up n u l) ∙ flip_down n (u + top n) (omega arith) ∙ omega arith)
    (λ l. ap (flip n) (flip_down n u l) ∙ flip_up n (u - top n) (omega (arith, size.twice)) ∙ omega arith)

-- the view of a shifted element, with the last bit out added, is that of the rounded one; by an amount for each element
module _ (w : Width) (g : Reading) (s : ℕ) (by : ℕ → ℕ) (small : (i : ℕ) → by i < bits w) {x y z : ℕ}
    (moved : Lanes (bits w) x (λ i. shift_right g (bits w) (element (bits w) s i) (by i)))
    (viewed : Each1 (bits w) y (view g (bits w)) x)
    (last : Lanes (bits w) z (λ i. last_out (element (bits w) s i) (by i))) where
  pub rounded-lanes : Lanes (bits w) (y + z) (λ i. view g (bits w) (element (bits w) s i) / 2 ^ by i
      + (bias g (bits w) - bias g (bits w) / 2 ^ by i) + last_out (element (bits w) s i) (by i))
  rounded-lanes =
      let n = bits w in
      sum-lanes (shares w)
      (same-lanes (shares w) viewed (λ i l.
      ap (view g n)
      (moved.at i l ∙ shift_right-form n (size w) g (element n s i) (by i) (element-below n s i) (small i))
      ∙ view-view n (size w) g (shifted-below n (size w) g (element n s i) (by i) (element-below n s i) (small i))))
      last
      (λ i l. rounded-below n (size w) g (element n s i) (by i) (element-below n s i) (small i))

  pub rounded-all : {r : ℕ} → Each1 (bits w) r (view g (bits w)) (y + z)
      → Lanes (bits w) r (λ i. shift_rounded g (bits w) (element (bits w) s i) (by i))
  rounded-all back =
      let n = bits w in
      same-lanes (shares w) back (λ i l. ap (view g n) (rounded-lanes.at i l)
      ∙ sym (shift_rounded-form n (size w) g (element n s i) (by i) (element-below n s i) (small i)))
