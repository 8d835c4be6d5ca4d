-- Sums and differences that wrap: what the wrapping operations of std give is ADDV and SUBV. One fact over the width,
-- cited at each of the four.
use Rattle.std.proofs.Common.{◌≡◌, ℕ, ◌+◌, ◌-◌, ◌/◌, ◌%◌, ◌^◌, sym, mod-lt, pow_pos, div-add-mod', arith}
use native.Mathlib.Nat.{add-mod}
use Rattle.element.proofs.Diff.{diff-pos, diff-minus}
use Rattle.element.proofs.Views.{wrap-is}
use Rattle.linear.specs.Sums.{addv, subv}

module _ (n s t : ℕ) {a b : ℕ} (first : a ≡ s % 2 ^ n) (second : b ≡ t % 2 ^ n) where
  pub added : (a + b) % 2 ^ n ≡ addv n s t
  unfolding addv
  added = rw (first, second) (sym (add-mod s t (2 ^ n)))

  pub subtracted : (a + (2 ^ n - b)) % 2 ^ n ≡ subv n s t
  unfolding subv
  subtracted =
      let sum = a + (2 ^ n - b) in
      sym (wrap-is n (diff-minus (diff-pos s) (diff-pos t)) (sum % 2 ^ n) (1 + t / 2 ^ n) (sum / 2 ^ n + s / 2 ^ n)
      (mod-lt sum (pow_pos n))
      (omega (arith, mod-lt t (pow_pos n), div-add-mod' s (2 ^ n), div-add-mod' t (2 ^ n), div-add-mod' sum (2 ^ n))))
