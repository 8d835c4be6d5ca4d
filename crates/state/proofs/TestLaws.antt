-- Laws of tests.
use Rattle.std.proofs.Common.{◌≡◌, ℕ, ◌<◌, Bool, true, false, not, ◌&&◌, ◌||◌, eqb, ltb, sym, refl, ◌∙◌, arith, le-ltb, lt-ltb, eqb-true}
use native.Mathlib.Decide.{dec_lt}
use Rattle.state.specs.Setup.{registers_bad}

-- two comparisons that hold together are one test
pub ltb-same : (a b c d : ℕ) → (a < b → c < d) → (c < d → a < b) → ltb a b ≡ ltb c d
ltb-same a b c d f g = go (dec_lt a b)
  where
    go : Dec (a < b) → ltb a b ≡ ltb c d
    go (yes h) = lt-ltb a b h ∙ sym (lt-ltb c d (f h))
    go (no h) = le-ltb a b (omega arith) ∙ sym (le-ltb c d (let k : (c < d → ⊥) = λ l. h (g l) in omega arith))

pub or_left : (a b : Bool) → a || b ≡ false → a ≡ false
or_left true b e = e
or_left false b e = refl

pub or_right : (a b : Bool) → a || b ≡ false → b ≡ false
or_right true b e = cc
or_right false b e = e

pub and_left : (a b : Bool) → a && b ≡ true → a ≡ true
and_left true b e = refl
and_left false b e = e

pub and_right : (a b : Bool) → a && b ≡ true → b ≡ true
and_right true b e = e
and_right false b e = cc

pub and-false : (a : Bool) → a && false ≡ false
and-false true = refl
and-false false = refl

pub not-false : (b : Bool) → not b ≡ false → b ≡ true
not-false true e = refl
not-false false e = cc

pub vectors-sized : (v g : ℕ) → registers_bad v g ≡ false → v ≡ 512
vectors-sized v g e = eqb-true v 512 (not-false (eqb v 512) (or_left (not (eqb v 512)) (not (eqb g 256)) e))

pub generals-sized : (v g : ℕ) → registers_bad v g ≡ false → g ≡ 256
generals-sized v g e = eqb-true g 256 (not-false (eqb g 256) (or_right (not (eqb v 512)) (not (eqb g 256)) e))
