-- What a match leaves of the codes: one computed test over the codes of a range says what holds of each that has no
-- arm. Most are no operation, and the table has VSHF there. Assumes nothing.
use mathlib.Core.Path.{◌≡◌, refl, sym, ap, subst, ◌∙◌}
use mathlib.Core.Bool.{Bool, true, false, cond}
use mathlib.Core.List.{List}
use Prim.Native.Nat.{ℕ, zero, suc, ◌+◌, ◌<◌, ◌≤◌}
use native.Mathlib.Omega.{arith}
use borrow.Author.Tests.{ltb-true, lt-ltb, le-ltb, eqb-true, eqb-false, ne_eqb}
use lib.Dec.{eqb, ltb}
use Rattle.isa.specs.declared.Three.{Three}
use Rattle.isa.specs.declared.Three.TheVariants as three
use Rattle.fields.specs.Fields.{both}
use Rattle.fields.proofs.Fields.{both_left, both_right}
use Rattle.ops.specs.Meaning.{three_at}
use Rattle.ops.proofs.Find.{Others, among, none}
use Rattle.forms.specs.Forms.{three_of}
use Rattle.permute.specs.Permute.{chosen_by_control}
use Rattle.vectors.specs.Register.{whole}
use Rattle.acts.specs.Act.{vector_of}
use Rattle.values.specs.Permuted.{is_vshf, permutes}

-- ---- a test of every number below a bound

abbrev pub up_to : ℕ → (ℕ → Bool) → Bool
up_to zero f = true
up_to (suc n) f = both (f n) (up_to n f)

module _ (f : ℕ → Bool) (c : ℕ) where
  here : (n : ℕ) (b : Bool) → eqb c n ≡ b → f n ≡ true → (c < n → f c ≡ true) → c < suc n → f c ≡ true
  here n true e t next l = subst (λ (k : ℕ). f k ≡ true) (sym (eqb-true c n e)) t
  here n false e t next l = next (let other = eqb-false c n e in omega arith)

  at_each : (n : ℕ) → up_to n f ≡ true → c < n → f c ≡ true
  at_each zero t l = absurd (omega arith)
  at_each (suc n) t l =
      here n (eqb c n) refl (both_left (f n) (up_to n f) t) (at_each n (both_right (f n) (up_to n f) t)) l

-- the test of those that are from low on and none of the codes
abbrev pub left : (ℕ → Bool) → ℕ → List ℕ → ℕ → Bool
left test low codes c = cond (ltb c low) true (cond (among c codes) true (test c))

pub left_over : (test : ℕ → Bool) (low high : ℕ) (codes : List ℕ) → up_to high (left test low codes) ≡ true
    → (c : ℕ) → low ≤ c → c < high → Others c (Unit {0}) codes → test c ≡ true
left_over test low high codes tested c l h others =
    rw (le-ltb c low l, (none c codes (Unit {0}) others).1) at (at_each (left test low codes) c high tested h)

-- ---- VSHF stands at a code

is-vshf : (o : Three) → is_vshf o ≡ true → o ≡ three.Vshf
is-vshf (three.Arith o) e = absurd (let z : ◌≡◌ {A = ℕ} 0 1 = cc in omega arith)
is-vshf (three.Bitwise o) e = absurd (let z : ◌≡◌ {A = ℕ} 0 1 = cc in omega arith)
is-vshf (three.Rounding o) e = absurd (let z : ◌≡◌ {A = ℕ} 0 1 = cc in omega arith)
is-vshf (three.Pack o) e = absurd (let z : ◌≡◌ {A = ℕ} 0 1 = cc in omega arith)
is-vshf three.Vshf e = refl

module _ (c : ℕ) (moves : permutes c ≡ true) where
  pub vshf-before : c ≤ 73 → three_at (c + 88) ≡ three.Vshf
  vshf-before h = is-vshf _ (rw (lt-ltb c 74 (omega arith)) at moves)

  pub vshf-after : 80 ≤ c → three_at (c + 88) ≡ three.Vshf
  vshf-after h = is-vshf _ (rw (le-ltb c 74 (omega arith), le-ltb c 80 h) at moves)

-- past the bitwise forms it is the table that says what a code does
pub past-logics : (c n d s t : ℕ) → 14 < c → three_of (three_at (c + 88)) n d s t ≡ vector_of c n d s t
unfolding vector_of
past-logics c n d s t h =
    rw (
      ne_eqb 8 c (λ e. omega arith),
      ne_eqb 9 c (λ e. omega arith),
      ne_eqb 10 c (λ e. omega arith),
      ne_eqb 11 c (λ e. omega arith),
      ne_eqb 12 c (λ e. omega arith),
      ne_eqb 13 c (λ e. omega arith),
      ne_eqb 14 c (λ e. omega arith),
    )

abbrev pub bare : ℕ → Bool
bare c = both (ltb 14 c) (is_vshf (three_at (c + 88)))

pub unassigned : (c n d s t : ℕ) → bare c ≡ true → whole n (chosen_by_control n d s t) ≡ vector_of c n d s t
unassigned c n d s t e =
    sym (ap (λ o. three_of o n d s t) (is-vshf (three_at (c + 88)) (both_right (ltb 14 c) (is_vshf (three_at (c + 88))) e)))
    ∙ past-logics c n d s t (ltb-true 14 c (both_left (ltb 14 c) (is_vshf (three_at (c + 88))) e))
