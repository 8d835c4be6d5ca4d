-- What the table says of the places of a class: one computed test of its rows. Assumes nothing.
use mathlib.Core.Path.{◌≡◌, refl, ap}
use mathlib.Core.Bool.{Bool, true, false, cond, not}
use Prim.Native.Nat.{ℕ, ◌%◌, ◌≤◌, ◌<◌}
use native.Mathlib.Omega.{arith}
use borrow.Author.Tests.{leb-true, ltb-true, eq-eqb, not-true}
use lib.Dec.{eqb, ltb, leb}
use Rattle.isa.specs.declared.Width.{Width}
use Rattle.isa.specs.declared.Width.TheVariants.{B, H, W, D}
use Rattle.isa.specs.Widths.{width_code}
use Rattle.fields.specs.Fields.{both}
use Rattle.fields.proofs.Fields.{both_left, both_right}
use Rattle.ops.specs.declared.Class.{Class}
use Rattle.ops.specs.declared.Class.TheVariants as class
use Rattle.ops.specs.Formats.{has}
use Rattle.ops.specs.Packed.{class_code}
use Rattle.ops.specs.Table.{Row, table, row_at, class_at, has_form}
use Rattle.ops.proofs.Find.{every, rule}

module _ (c : Class) (f : ℕ → Row → Bool) where
  abbrev test : ℕ → Row → Bool
  test k r = cond (eqb (class_code r.class) (class_code c)) (f k r) true

  class-rule : eqb 0 (class_code c) ≡ false → every test table ≡ true → (k : ℕ) → class_at k ≡ c → f k (row_at k) ≡ true
  unfolding row_at
  class-rule past t k e =
      rw (ap class_code e, eq-eqb (class_code c) (class_code c) refl) at (rule test (λ k. rw past) table t k)

-- 3R
abbrev three_place : ℕ → Bool
three_place k = both (leb 104 k) (ltb k 176)

pub three-place : (k : ℕ) → class_at k ≡ class.Three → (104 ≤ k) × (k < 176)
three-place k e =
    let t : three_place k ≡ true = class-rule class.Three (λ k r. three_place k) refl refl k e in
    (leb-true 104 k (both_left (leb 104 k) (ltb k 176) t), ltb-true k 176 (both_right (leb 104 k) (ltb k 176) t))

-- the fixed-point multiplies have neither B nor D
module _ (k : ℕ) (e : class_at k ≡ class.Fixed) where
  abbrev lacks : Width → ℕ → Row → Bool
  lacks df k r = not (has r.formats df)

  without : (df : Width) → every (test class.Fixed (lacks df)) table ≡ true → has_form k df ≡ true → ⊥
  without df t h =
      let n : has_form k df ≡ false = not-true (has_form k df) (class-rule class.Fixed (lacks df) refl t k e) in
      let z : ◌≡◌ {A = ℕ} 0 1 = cc in omega arith

  pub fixed-format : (df : Width) → has_form k df ≡ true → cond (eqb (width_code df % 4) 1) H W ≡ df
  fixed-format B h = absurd (without B refl h)
  fixed-format H h = refl
  fixed-format W h = refl
  fixed-format D h = absurd (without D refl h)
