-- Shifts to the right, in views.
-- Assumes nothing.
use mathlib.Core.Path.{◌≡◌, refl, sym, ap, ◌∙◌}
use Prim.Native.Nat.{ℕ, zero, suc, ◌+◌, ◌-◌, ◌*◌, ◌/◌, ◌^◌, ◌≤◌, ◌<◌, suc-le-suc, zero-le}
use native.Mathlib.Omega.{arith}
use native.Mathlib.Nat.{div-mul-le_self, div-le_self, mul-div_cancel, div-lt_iff_lt-mul, mul-le-mul_left, zero-div}
use borrow.Author.Tests.{ne_eqb}
use lib.Pow.{pow_pos, pow-add, pow_mono}
use lib.Signed.{shr_z}
use Rattle.element.specs.declared.Reading.{Reading}
use Rattle.element.specs.declared.Reading.TheVariants.{Unsigned, Signed}
use Rattle.element.specs.Value.{top, value}
use Rattle.element.specs.Views.{flip, view, bias}
use Rattle.element.proofs.Diff.{Diff, diff-pos, diff-add, diff-to, diff-shr}
use Rattle.element.proofs.Readings.{value-diff, view-below, wrap-view}
use Rattle.element.proofs.Widths.{Size}
use Rattle.bits.specs.Shifts.{last_out, shift_right, shift_rounded}
use Rattle.bits.proofs.Fields.{bit-small}

last-small : (x k : ℕ) → last_out x k < 2
unfolding last_out
last-small x zero = omega arith
last-small x (suc k) = rw (ne_eqb (suc k) 0 (λ e. omega arith)) (bit-small x (suc k - 1))

last_none : (x : ℕ) → last_out x 0 ≡ 0
unfolding last_out
last_none x = refl

module _ (n : ℕ) (size : Size n) (g : Reading) (s k : ℕ) (below : s < 2 ^ n) (small : k < n) where
  -- the bias is a multiple of each place's weight
  split : bias g n ≡ bias g n / 2 ^ k * 2 ^ k
  split = go g
    where
      whole : top n ≡ 2 ^ (n - 1 - k) * 2 ^ k
      whole = ap (λ x. 2 ^ x) (omega arith) ∙ pow-add 2 (n - 1 - k) k

      go : (g : Reading) → bias g n ≡ bias g n / 2 ^ k * 2 ^ k
      go Unsigned = rw (zero-div (2 ^ k)) (omega arith)
      go Signed = whole ∙ ap (λ x. x * 2 ^ k) (sym (ap (λ x. x / 2 ^ k) whole ∙ mul-div_cancel (2 ^ (n - 1 - k)) (pow_pos k)))

  shifted : Diff (shr_z (value g n s) (2 ^ k)) (view g n s / 2 ^ k) (bias g n / 2 ^ k)
  shifted = diff-shr (2 ^ k) (pow_pos k) (diff-to (value-diff n size g below) (omega (arith, split)))

  within : bias g n / 2 ^ k ≤ bias g n
  within = div-le_self (bias g n) (2 ^ k)

  pub rounded-below : view g n s / 2 ^ k + (bias g n - bias g n / 2 ^ k) + last_out s k < 2 ^ n
  rounded-below = go g k (view-below n size g below) split
    where
      twice : (q k : ℕ) → q * 2 ≤ q * 2 ^ suc k
      twice q k = mul-le-mul_left q (pow_mono {i = 1} {j = suc k} (suc-le-suc zero-le))

      go : (g : Reading) (k : ℕ) → view g n s < 2 ^ n → bias g n ≡ bias g n / 2 ^ k * 2 ^ k
          → view g n s / 2 ^ k + (bias g n - bias g n / 2 ^ k) + last_out s k < 2 ^ n
      go g zero room e = omega (arith, last_none s)
      go Unsigned (suc k) room e =
          omega (arith, last-small s (suc k), div-mul-le_self s (2 ^ suc k), twice (s / 2 ^ suc k) k, zero-div (2 ^ suc k))
      go Signed (suc k) room e =
          let part = (div-lt_iff_lt-mul {x = flip n s} {y = top n / 2 ^ suc k + top n / 2 ^ suc k} (pow_pos (suc k))).1 (omega (arith, e)) in
          omega (arith, last-small s (suc k), twice (top n / 2 ^ suc k) k)

  pub shifted-below : view g n s / 2 ^ k + (bias g n - bias g n / 2 ^ k) < 2 ^ n
  shifted-below = omega (arith, rounded-below)

  pub shift_right-form : shift_right g n s k ≡ view g n (view g n s / 2 ^ k + (bias g n - bias g n / 2 ^ k))
  unfolding shift_right
  shift_right-form = wrap-view n size g _ shifted (omega (arith, within)) shifted-below

  pub shift_rounded-form : shift_rounded g n s k ≡ view g n (view g n s / 2 ^ k + (bias g n - bias g n / 2 ^ k) + last_out s k)
  unfolding shift_rounded
  shift_rounded-form = wrap-view n size g _ (diff-add shifted (diff-pos (last_out s k))) (omega (arith, within)) rounded-below
