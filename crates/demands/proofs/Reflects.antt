-- A test reflects a fact where it is true if the fact holds, and false if it does not. Assumes nothing.
use mathlib.Core.Path.{◌≡◌, refl, sym, ◌∙◌}
use mathlib.Core.Bool.{Bool, true, false, not, ◌&&◌, ◌||◌}
use mathlib.Core.Logic.{◌⊎◌, inl, inr, ⊎_elim}
use Prim.Native.Nat.{ℕ, ◌≤◌, ◌<◌}
use native.Mathlib.Omega.{arith}
use borrow.Author.Tests.{eqb-true, eqb-false, leb-true, leb-false, ltb-true, ltb-false}
use lib.Dec.{eqb, leb, ltb}
use Rattle.demands.specs.Tables.{Not}

pub record Reflects (b : Bool) (P : Type 0) : Type 0 where
  pub yes : b ≡ true → P
  pub no : b ≡ false → P → ⊥

pub clash : {A : Type 0} {b : Bool} → b ≡ true → b ≡ false → A
clash t f = let z : ◌≡◌ {A = ℕ} 0 1 = cc in absurd (omega arith)

-- the same test of a fact that holds together with it
pub likewise : {b : Bool} {P Q : Type 0} → (P → Q) → (Q → P) → Reflects b P → Reflects b Q
likewise f g r = record { yes = λ e. f (r.yes e); no = λ e q. r.no e (g q) }

pub eq-reflects : (x y : ℕ) → Reflects (eqb x y) (x ≡ y)
eq-reflects x y = record { yes = eqb-true x y; no = eqb-false x y }

pub lt-reflects : (x y : ℕ) → Reflects (ltb x y) (x < y)
lt-reflects x y = record { yes = ltb-true x y; no = λ e h. omega (arith, ltb-false x y e) }

pub le-reflects : (x y : ℕ) → Reflects (leb x y) (x ≤ y)
le-reflects x y = record { yes = leb-true x y; no = λ e h. omega (arith, leb-false x y e) }

pub not-reflects : (b : Bool) {P : Type 0} → Reflects b P → Reflects (not b) (Not P)
not-reflects true r = record { yes = λ e. clash e refl; no = λ e n. n (r.yes refl) }
not-reflects false r = record { yes = λ e p. r.no refl p; no = λ e. clash refl e }

pub or-reflects : (a b : Bool) {P Q : Type 0} → Reflects a P → Reflects b Q → Reflects (a || b) (P ⊎ Q)
or-reflects true b x y = record { yes = λ e. inl (x.yes refl); no = λ e. clash refl e }
or-reflects false b x y = record { yes = λ e. inr (y.yes e); no = λ e. ⊎_elim (x.no refl) (y.no e) }

pub and-reflects : (a b : Bool) {P Q : Type 0} → Reflects a P → Reflects b Q → Reflects (a && b) (P × Q)
and-reflects true b x y = record { yes = λ e. (x.yes refl, y.yes e); no = λ e h. y.no e h.1 }
and-reflects false b x y = record { yes = λ e. clash e refl; no = λ e h. x.no refl h.0 }

-- the first of several facts that are tested from the left
pub or-first : (a b c : Bool) {P Q R : Type 0} → Reflects ((a || b) || c) ((P ⊎ Q) ⊎ R)
    → Reflects ((a || b) || c) (P ⊎ Q ⊎ R)
or-first a b c r =
    likewise (⊎_elim (⊎_elim inl (λ q. inr (inl q))) (λ z. inr (inr z)))
    (⊎_elim (λ p. inl (inl p)) (⊎_elim (λ q. inl (inr q)) inr)) r

pub four-reflect : (a b c d : Bool) {P Q R S : Type 0} → Reflects a P → Reflects b Q → Reflects c R → Reflects d S
    → Reflects (((a || b) || c) || d) (P ⊎ Q ⊎ R ⊎ S)
four-reflect true b c d p q r s = record { yes = λ e. inl (p.yes refl); no = λ e. clash refl e }
four-reflect false b c d p q r s =
    let rest = or-first b c d (or-reflects (b || c) d (or-reflects b c q r) s) in
    record { yes = λ e. inr (rest.yes e); no = λ e. ⊎_elim (p.no refl) (rest.no e) }
