-- What an operation does by its name, from what it does in the arm that knows the name.
use mathlib.Core.Path.{◌≡◌}
use Prim.Native.Nat.{ℕ, ◌/◌, ◌^◌, ◌<◌}
use Rattle.isa.specs.declared.Width.{Width}
use Rattle.isa.specs.Widths.{bits}
use Rattle.vectors.specs.Register.{build}
use Rattle.vectors.proofs.Sizes.{shares}
use Rattle.parallel.specs.Lanes.{Lanes, Each2, Each3}
use Rattle.parallel.proofs.Words.{made}

pub named2 : {A : Type 0} (op : A → ℕ → ℕ → ℕ → ℕ) {x y : A} {n r : ℕ} (s t : ℕ) → x ≡ y → Each2 n r (op y n) s t
    → Each2 n r (op x n) s t
named2 op s t e h = rw e h

pub named3 : {A : Type 0} (op : A → ℕ → ℕ → ℕ → ℕ → ℕ) {x y : A} {n r : ℕ} (d s t : ℕ) → x ≡ y
    → Each3 n r (op y n) d s t → Each3 n r (op x n) d s t
named3 op d s t e h = rw e h

-- and at a width, from what it does in the arm that knows the width
pub at-width2 : (op : ℕ → ℕ → ℕ → ℕ) {v w : Width} {r : ℕ} (s t : ℕ) → w ≡ v → Each2 (bits v) r (op (bits v)) s t
    → Each2 (bits w) r (op (bits w)) s t
at-width2 op s t e h = rw e h

pub at-width3 : (op : ℕ → ℕ → ℕ → ℕ → ℕ) {v w : Width} {r : ℕ} (d s t : ℕ) → w ≡ v
    → Each3 (bits v) r (op (bits v)) d s t → Each3 (bits w) r (op (bits w)) d s t
at-width3 op d s t e h = rw e h

-- one number in every element, by a literal for each width
pub all-at : {k : Width → ℕ} → ((w : Width) → k w < 2 ^ bits w) → {v w : Width} {x : ℕ} → w ≡ v
    → x ≡ build (bits v) (λ _. k v) (64 / bits v) → Lanes (bits w) x (λ _. k w)
all-at {k} room {v} e is = rw e (made (shares v) (λ _. k v) is (λ i l. room v))
