-- A word of one element, of 64 bits: it is its own element.
use mathlib.Core.Path.{◌≡◌, sym, ap, ap₂, ◌∙◌}
use Prim.Native.Nat.{ℕ, zero, suc, ◌%◌, ◌^◌, ◌<◌}
use native.Mathlib.Omega.{arith}
use native.Mathlib.Nat.{mod-eq_of_lt, div-one}
use Rattle.vectors.specs.Register.{element}
use Rattle.parallel.specs.Lanes.{Each2}

only : (x i : ℕ) → x < 2 ^ 64 → i < 1 → element 64 x i ≡ x
unfolding element
only x zero h l = ap (λ z. z % 2 ^ 64) (div-one x) ∙ mod-eq_of_lt h
only x (suc i) h l = absurd (omega arith)

pub one_lane : (op : ℕ → ℕ → ℕ) {r s t : ℕ} → r < 2 ^ 64 → s < 2 ^ 64 → t < 2 ^ 64 → r ≡ op s t → Each2 64 r op s t
one_lane op {r} {s} {t} hr hs ht e =
    record { below = hr; at = λ i l. only r i hr l ∙ e ∙ ap₂ op (sym (only s i hs l)) (sym (only t i ht l)) }
