-- The patterns of one format: among them the index is what is left, beside them the rest says. Assumes nothing.
use mathlib.Core.Path.{◌≡◌, refl, ap, ◌∙◌}
use mathlib.Core.Bool.{Bool, true, false, cond}
use Prim.Native.Nat.{ℕ, ◌+◌, ◌-◌, ◌≤◌, ◌<◌}
use native.Mathlib.Omega.{arith}
use borrow.Author.Tests.{leb-true, ltb-true, lt-ltb, le-ltb, le-leb, lt-leb}
use lib.Dec.{leb, ltb}
use Rattle.isa.specs.declared.Width.{Width}
use Rattle.fields.specs.Fields.{both}
use Rattle.fields.proofs.Fields.{both_left, both_right}
use Rattle.reading.specs.Index.{Index, at, range}

module _ (df : Width) (base size x : ℕ) (rest : Index) where
  pub in-range : base ≤ x → x < base + size → range df base size x rest ≡ at df (x - base)
  unfolding range
  in-range l h = rw (le-leb base x l, lt-ltb x (base + size) h)

  pub below-range : x < base → range df base size x rest ≡ rest
  unfolding range
  below-range h = rw (lt-leb base x h)

  pub past-range : base + size ≤ x → range df base size x rest ≡ rest
  unfolding range
  past-range h = rw (le-leb base x (omega arith), le-ltb x (base + size) h)

  -- by the two ways
  pub by-range : (P : Index → Type 0) → (base ≤ x → x < base + size → P (at df (x - base))) → P rest
      → P (range df base size x rest)
  unfolding range
  by-range P f r = go (both (leb base x) (ltb x (base + size))) refl
    where
      go : (b : Bool) → both (leb base x) (ltb x (base + size)) ≡ b → P (cond b (at df (x - base)) rest)
      go true e =
          f (leb-true base x (both_left (leb base x) (ltb x (base + size)) e))
          (ltb-true x (base + size) (both_right (leb base x) (ltb x (base + size)) e))
      go false e = r

-- the pattern of index n
pub range-index : (df : Width) (base size n : ℕ) (rest : Index) → n < size → range df base size (base + n) rest ≡ at df n
range-index df base size n rest h =
    in-range df base size (base + n) rest (omega arith) (omega arith) ∙ ap (at df) (omega arith)
