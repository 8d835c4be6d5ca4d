-- A word of one element, and of two: what is made of each by itself.
use mathlib.Core.Path.{◌≡◌, sym, ap, ◌∙◌}
use Prim.Native.Nat.{ℕ, zero, suc, ◌+◌, ◌*◌, ◌/◌, ◌%◌, ◌^◌, ◌<◌}
use native.Mathlib.Omega.{arith}
use native.Mathlib.Nat.{mod-eq_of_lt, div-one}
use lib.Pow.{shr_mod}
use Rattle.isa.specs.declared.Width.TheVariants.{W}
use Rattle.vectors.specs.Register.{element, build}
use Rattle.vectors.proofs.Sizes.{shares}
use Rattle.parallel.specs.Lanes.{Each1}
use Rattle.parallel.proofs.Words.{made}

lowest : (n x : ℕ) → element n x 0 ≡ x % 2 ^ n
unfolding element
lowest n x =
    let none : n * 0 ≡ 0 = omega arith in
    ap (λ z. x / 2 ^ z % 2 ^ n) none ∙ ap (λ z. z % 2 ^ n) (div-one x)

second : (n x : ℕ) → x < 2 ^ (n + n) → element n x 1 ≡ x / 2 ^ n
unfolding element
second n x h =
    let once : n * 1 ≡ n = omega arith in
    ap (λ z. x / 2 ^ z % 2 ^ n) once ∙ shr_mod n n h

module _ (op : ℕ → ℕ) (s : ℕ) (h : s < 2 ^ 64) where
  pub one_lane : {r : ℕ} → r < 2 ^ 64 → r ≡ op s → Each1 64 r op s
  one_lane {r} small e = record { below = small; at = at }
    where
      at : (i : ℕ) → i < 1 → element 64 r i ≡ op (element 64 s i)
      at zero l = lowest 64 r ∙ mod-eq_of_lt small ∙ e ∙ ap op (sym (lowest 64 s ∙ mod-eq_of_lt h))
      at (suc i) l = absurd (omega arith)

  -- the second is shifted to its place, and no bit of it is lost
  pub two_lanes : ((x : ℕ) → op x < 2 ^ 32) → {a b : ℕ} → a ≡ op (s % 2 ^ 32) → b ≡ op (s / 2 ^ 32)
      → Each1 32 (a + b * 2 ^ 32 % 2 ^ 64) op s
  unfolding build
  two_lanes room {b = b} ea eb =
      let fits : b * 2 ^ 32 < 2 ^ 64 = omega (arith, eb, room (s / 2 ^ 32)) in
      made (shares W) (λ i. op (element 32 s i))
      (omega (arith, mod-eq_of_lt fits, ea ∙ ap op (sym (lowest 32 s)), eb ∙ ap op (sym (second 32 s h))))
      (λ i l. room (element 32 s i))
