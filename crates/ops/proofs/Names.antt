-- Each name leads back to one place. Assumes nothing.
use mathlib.Core.Path.{◌≡◌, refl, sym, ap₂}
use mathlib.Core.Bool.{Bool, true, false, cond}
use mathlib.Core.List.{List, [], ◌∷◌}
use Prim.Native.Nat.{ℕ, ◌≤◌}
use native.Mathlib.Omega.{arith}
use borrow.Author.Tests.{eqb-true, leb-true}
use lib.Dec.{eqb, leb}
use lib.ListN.{length}
use Rattle.fields.proofs.Fields.{both_left, both_right}
use Rattle.text.specs.Text.{bytes}
use Rattle.ops.specs.declared.Class.{Class}
use Rattle.ops.specs.declared.Class.TheVariants as class
use Rattle.ops.specs.Packed.{class_code}
use Rattle.ops.specs.Table.{Row, table, row_at, class_at, formats_at, mnemonic}
use Rattle.ops.specs.Names.{same, whole, alike, place_of_name}
use Rattle.ops.proofs.Find.{rule}

pub same→eq : (xs ys : List ℕ) → same xs ys ≡ true → xs ≡ ys
same→eq [] [] t = refl
same→eq [] (y ∷ ys) t = absurd (let z : ◌≡◌ {A = ℕ} 0 1 = cc in omega arith)
same→eq (x ∷ xs) [] t = absurd (let z : ◌≡◌ {A = ℕ} 0 1 = cc in omega arith)
same→eq (x ∷ xs) (y ∷ ys) t =
    ap₂ {C = List ℕ} (λ a l. a ∷ l) (eqb-true x y (both_left (eqb x y) (same xs ys) t))
    (same→eq xs ys (both_right (eqb x y) (same xs ys) t))

-- no name is longer than eight letters
abbrev short : ℕ → Row → Bool
short k r = leb (length (bytes r.name)) 8

pub name-short : (k : ℕ) → length (mnemonic k) ≤ 8
unfolding row_at
name-short k = leb-true (length (mnemonic k)) 8 (rule short (λ k. refl) table refl k)

-- the places that are no operation: reserved, or left out
abbrev pub unnamed : Class → Bool
unnamed c = cond (eqb (class_code c) 0) true (eqb (class_code c) 23)

-- a row that has a name comes back as its place, and an operation has a name
abbrev comes_back : ℕ → Row → Bool
comes_back k r =
    cond (eqb (length (bytes r.name)) 0) (unnamed r.class)
    (eqb (place_of_name (bytes r.name) (whole r.formats)) k)

back_at : (k : ℕ) → comes_back k (row_at k) ≡ true
unfolding row_at place_of_name
back_at k = rule comes_back (λ k. refl) table refl k

pub place-back : (k : ℕ) → unnamed (class_at k) ≡ false → place_of_name (mnemonic k) (whole (formats_at k)) ≡ k
place-back k h = by (eqb (length (mnemonic k)) 0) (back_at k)
  where
    by : (b : Bool) → cond b (unnamed (class_at k)) (eqb (place_of_name (mnemonic k) (whole (formats_at k))) k) ≡ true
        → place_of_name (mnemonic k) (whole (formats_at k)) ≡ k
    by true e = absurd (let z : ◌≡◌ {A = ℕ} 0 1 = cc in omega arith)
    by false e = eqb-true _ k e

-- .V stands behind the operations of three classes
abbrev pub whole_class : Class → Bool
whole_class c =
    cond (eqb (class_code c) (class_code class.Vec)) true
    (cond (eqb (class_code c) (class_code class.Move)) true (eqb (class_code c) (class_code class.BranchV)))

alike→eq : (a b : Bool) → alike a b ≡ true → a ≡ b
alike→eq true true t = refl
alike→eq true false t = sym t
alike→eq false true t = t
alike→eq false false t = refl

pub whole-class : (k : ℕ) → whole (formats_at k) ≡ whole_class (class_at k)
unfolding row_at
whole-class k =
    alike→eq _ _ (rule (λ k r. alike (whole r.formats) (whole_class r.class)) (λ k. refl) table refl k)
