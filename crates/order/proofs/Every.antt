-- A test of every number below a bound, by computing. Assumes nothing.
use mathlib.Core.Path.{◌≡◌, refl}
use mathlib.Core.Bool.{Bool, true, false, cond}
use Prim.Native.Nat.{ℕ, zero, suc, ◌<◌}
use native.Mathlib.Decide.{dec_lt}
use native.Mathlib.Omega.{arith}

abbrev pub every : ℕ → (ℕ → Bool) → Bool
every zero f = true
every (suc k) f = cond (f k) (every k f) false

pub every-at : (k : ℕ) (f : ℕ → Bool) → every k f ≡ true → (j : ℕ) → j < k → f j ≡ true
every-at zero f t j h = absurd (omega arith)
every-at (suc k) f t j h = go (f k) refl t (every-at k f) (dec_lt j k)
  where
    go : (last : Bool) → f k ≡ last → cond last (every k f) false ≡ true
        → (every k f ≡ true → (j : ℕ) → j < k → f j ≡ true) → Dec (j < k) → f j ≡ true
    go true e t before (yes l) = before t j l
    go true e t before (no l) = let same : j ≡ k = omega arith in rw same e
    go false e t before l = let z : ◌≡◌ {A = ℕ} 0 1 = cc in absurd (omega arith)
