-- The table is looked up by its places: what one test over all rows shows holds at each place. Assumes nothing.
use mathlib.Core.Path.{◌≡◌, refl, sym, subst}
use mathlib.Core.Bool.{Bool, true, false, cond}
use mathlib.Core.List.{List, [], ◌∷◌}
use Prim.Native.Nat.{ℕ}
use native.Mathlib.Omega.{arith}
use lib.Dec.{eqb}
use borrow.Author.Tests.{ne_eqb, eqb-true}
use Rattle.fields.specs.Fields.{both}
use Rattle.fields.proofs.Fields.{both_left, both_right}
use Rattle.ops.specs.Table.{Line, Row, absent, find}
use Rattle.ops.specs.Meaning.{meant}

-- k is none of these numbers, in the form that a match gives
abbrev pub Others : ℕ → Type 0 → List ℕ → Type 0
Others k A [] = A
Others k A (n ∷ ns) = Others k (A × (k ≡ n → ⊥)) ns

abbrev pub among : ℕ → List ℕ → Bool
among k [] = false
among k (n ∷ ns) = cond (eqb n k) true (among k ns)

pub none : (k : ℕ) (ns : List ℕ) (A : Type 0) → Others k A ns → A × (among k ns ≡ false)
none k [] A h = (h, refl)
none k (n ∷ ns) A h = let m = none k ns (A × (k ≡ n → ⊥)) h in (m.0.0, rw (ne_eqb n k (λ e. m.0.1 (sym e))) m.1)

-- a rule of the table: one computed test of each row with its place, and the rule at each place
abbrev pub every : (ℕ → Row → Bool) → List Row → Bool
every f [] = true
every f (r ∷ rs) = both (f r.place r) (every f rs)

module _ (f : ℕ → Row → Bool) (past : (k : ℕ) → f k absent ≡ true) where
  here : (r : Row) (rs : List Row) (k : ℕ) (b : Bool) → eqb r.place k ≡ b → f r.place r ≡ true
      → f k (find k rs) ≡ true → f k (cond b r (find k rs)) ≡ true
  here r rs k true e t next = subst (λ (n : ℕ). f n r ≡ true) (eqb-true _ _ e) t
  here r rs k false e t next = next

  pub rule : (rs : List Row) → every f rs ≡ true → (k : ℕ) → f k (find k rs) ≡ true
  rule [] t k = past k
  rule (r ∷ rs) t k =
      here r rs k (eqb r.place k) refl (both_left (f r.place r) (every f rs) t) (rule rs (both_right (f
      r.place r) (every f rs) t) k)

-- where k is the place of no line, what was said first is meant
abbrev pub places : {A : Type 0} → List (Line A) → List ℕ
places [] = []
places (l ∷ ls) = l.place ∷ places ls

module _ {A : Type 0} (other : A) (k : ℕ) where
  passed : (l : Line A) (ls : List (Line A)) (b : Bool) → cond b true (among k (places ls)) ≡ false
      → (among k (places ls) ≡ false → meant other k ls ≡ other)
      → cond b l.does (meant other k ls) ≡ other
  passed l ls true h next = absurd (let z : ◌≡◌ {A = ℕ} 0 1 = cc in omega arith)
  passed l ls false h next = next h

  without : (ls : List (Line A)) → among k (places ls) ≡ false → meant other k ls ≡ other
  without [] h = refl
  without (l ∷ ls) h = passed l ls (eqb l.place k) h (λ m. without ls m)

  pub unmeant : (ls : List (Line A)) → Others k (Unit {0}) (places ls) → other ≡ meant other k ls
  unmeant ls h = sym (without ls (none k (places ls) (Unit {0}) h).1)
