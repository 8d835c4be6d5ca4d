-- An immediate that is kept modulo 2^32 is the number that it stands for, in 64 bits. Assumes nothing.
use Rattle.std.proofs.Common.{◌≡◌, ℕ, zero, suc, ◌-◌, ◌*◌, ◌%◌, ◌^◌, ◌<◌, ◌≤◌, ℤ, pos, negsuc, ◌*ℤ◌, neg_ℤ, nat_abs, sym, refl, ap, ◌∙◌, mod-eq_of_lt, mul-le-mul, arith, pow_mono}
use Rattle.element.specs.Value.{top, signed, wrap, magnitude}
use Rattle.element.proofs.Diff.{by_order}
use Rattle.element.proofs.Views.{wrap-below, magnitude-low, magnitude-high}
use Rattle.element.proofs.Widths.{sized}
use Rattle.permute.proofs.Extensions.{extend-plus, extend-minus}
use Rattle.entries.specs.Cut.{imm_of, extended_of}

sign_kept : (z : ℤ) → nat_abs z < 2147483648 → wrap 64 (signed 32 (wrap 32 z)) ≡ wrap 64 z
unfolding wrap
sign_kept (pos a) h =
    let e : a % 2 ^ 32 ≡ a = mod-eq_of_lt (omega arith) in
    rw e (sym (extend-plus 32 a h (omega arith)) ∙ sym (mod-eq_of_lt (omega arith)))
sign_kept (negsuc a) h =
    sym (extend-minus 32 (2 ^ 32 - 1 - a % 2 ^ 32) (2 ^ 64 - 1 - a % 2 ^ 64) (omega arith) (omega arith) (omega arith))

module _ (x : ℕ) where
  kept : (z : ℤ) → nat_abs z < 2147483648 → imm_of x ≡ wrap 32 z % 4294967296 → extended_of x ≡ wrap 64 z
  kept z h e = ap (λ (n : ℕ). wrap 64 (signed 32 n)) (e ∙ mod-eq_of_lt (wrap-below 32 z)) ∙ sign_kept z h

  pub kept_small : (i : ℕ) → i < 2147483648 → imm_of x ≡ i % 4294967296 → extended_of x ≡ i
  unfolding wrap
  kept_small i h e = kept (pos i) h (omega arith) ∙ mod-eq_of_lt (omega arith)

-- ---- the signed fields, and some of them times a few

neg-size : (k : ℕ) → nat_abs (neg_ℤ (pos k)) ≡ k
neg-size zero = refl
neg-size (suc k) = refl

times-size : (z : ℤ) (b : ℕ) → nat_abs (z *ℤ pos b) ≡ nat_abs z * b
times-size (pos a) b = refl
times-size (negsuc a) b = neg-size (suc a * b)

module _ (n : ℕ) (any : 0 < n) (few : n ≤ 16) (x f : ℕ) (h : f < 2 ^ n) where
  signed-small : nat_abs (signed n f) ≤ 32768
  unfolding magnitude
  signed-small =
      let s = sized n any (omega arith) in
      let room : top n ≤ 2 ^ 15 = pow_mono {j = 15} (omega arith) in
      by_order f (top n) (λ l. omega (arith, magnitude-low n s l))
      (λ l. omega (arith, magnitude-high n s l h, s.twice))

  pub kept-signed : imm_of x ≡ wrap 32 (signed n f) % 4294967296 → extended_of x ≡ wrap 64 (signed n f)
  kept-signed e = kept x (signed n f) (omega (arith, signed-small)) e

  pub kept-times : (b : ℕ) → b ≤ 8 → imm_of x ≡ wrap 32 (signed n f *ℤ pos b) % 4294967296
      → extended_of x ≡ wrap 64 (signed n f *ℤ pos b)
  kept-times b l e =
      let z = signed n f in
      let k : nat_abs z * b ≤ 32768 * 8 = mul-le-mul signed-small l in
      kept x (z *ℤ pos b) (omega (arith, times-size z b)) e
