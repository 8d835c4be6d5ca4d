-- A table's rule: one computed test of every entry with its place, and the law that turns it into the rule at each
-- place.
-- Assumes nothing.
use mathlib.Core.Path.{◌≡◌, ◌∙◌, sym, subst}
use mathlib.Core.Bool.{Bool, true}
use mathlib.Core.List.{List, [], ◌∷◌}
use Prim.Native.Nat.{ℕ, zero, suc, ◌+◌}
use native.Mathlib.Nat.{add-zero, zero-add, add-suc, suc-add}
use lib.ListN.{get_or}
use Rattle.fields.specs.Fields.{both}
use Rattle.fields.proofs.Fields.{both_left, both_right}

module _ {A : Type 0} where
  -- f holds of each entry of the list, the first at place i
  abbrev pub every : (ℕ → A → Bool) → ℕ → List A → Bool
  every f i [] = true
  every f i (x ∷ xs) = both (f i x) (every f (suc i) xs)

  -- d stands at every place past the end
  module _ (f : ℕ → A → Bool) (d : A) (past : (k : ℕ) → f k d ≡ true) where
    from : (xs : List A) (i : ℕ) → every f i xs ≡ true → (k : ℕ) → f (i + k) (get_or xs k d) ≡ true
    from [] i t k = past (i + k)
    from (x ∷ xs) i t zero = subst (λ (m : ℕ). f m x
        ≡ true) (sym (add-zero i)) (both_left (f i x) (every f (suc i) xs) t)
    from (x ∷ xs) i t (suc k) =
        subst (λ (m : ℕ). f m (get_or xs k d) ≡ true) (suc-add i k ∙ sym (add-suc i k))
        (from xs (suc i) (both_right (f i x) (every f (suc i) xs) t) k)

    pub at : (xs : List A) → every f 0 xs ≡ true → (k : ℕ) → f k (get_or xs k d) ≡ true
    at xs t k = subst (λ (m : ℕ). f m (get_or xs k d) ≡ true) (zero-add k) (from xs 0 t k)
