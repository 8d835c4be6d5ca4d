-- Which words read as a branch: by the places of the table that have one, and the bits that lead there. Assumes
-- nothing.
use mathlib.Core.Path.{◌≡◌, refl, sym, ap, ◌∙◌}
use mathlib.Core.Bool.{Bool, true, false, cond, ◌||◌}
use Prim.Native.Nat.{ℕ, ◌+◌, ◌*◌, ◌/◌, ◌%◌, ◌^◌, ◌<◌}
use native.Mathlib.Omega.{arith}
use borrow.Author.Tests.{eqb-true, eqb-false}
use lib.Dec.{eqb, lit<}
use Rattle.std.specs.Prelude.{Result}
use Rattle.isa.specs.declared.Unread.{Unread}
use Rattle.isa.specs.declared.Instr.{Instr}
use Rattle.isa.specs.Widths.{width_at}
use Rattle.element.proofs.Diff.{by_order}
use Rattle.fields.specs.Fields.{bits, both}
use Rattle.ops.specs.declared.Class.{Class}
use Rattle.ops.specs.declared.Class.TheVariants as class
use Rattle.ops.specs.Formats.{Formats, bhwd, has}
use Rattle.ops.specs.Packed.{class_code}
use Rattle.ops.specs.Table.{Row, table, row_at, class_at, formats_at}
use Rattle.ops.proofs.Find.{rule}
use Rattle.reading.specs.Index.{Index}
use Rattle.reading.specs.Index.{bit_index, element_index}
use Rattle.reading.specs.Reading.{branch, place_of, df, hw, read_class, read_of}
use Rattle.words.proofs.Blocks.{cond-elim, inside, found, stood, to-branch}
use Rattle.budget.specs.Budget.{ahead, forward}

-- ---- the table

-- Branch at the places 446 and 447, BranchV at 442 and 443, and neither elsewhere
abbrev placed : ℕ → Row → Bool
placed k r =
    cond (eqb (class_code r.class) 20) (eqb (k / 2) 223) (cond (eqb (class_code r.class) 21) (eqb (k / 2) 221) true)

placed_at : (k : ℕ) → placed k (row_at k) ≡ true
unfolding row_at
placed_at k = rule placed (λ k. refl) table refl k

branch-at : (k : ℕ) → class_at k ≡ class.Branch → k / 2 ≡ 223
branch-at k q = eqb-true (k / 2) 223 (rw q at (placed_at k))

branch-v-at : (k : ℕ) → class_at k ≡ class.BranchV → k / 2 ≡ 221
branch-v-at k q = eqb-true (k / 2) 221 (rw q at (placed_at k))

-- ---- the words

module _ (w : ℕ) where
  -- what goes only forward, whatever the offset bits are
  abbrev Quiet : Result Instr Unread → Type 0
  Quiet r = forward r ≡ true

  abbrev indexed? : Index → Formats → Bool
  indexed? x f = both x.ok (has f x.df)

  -- of no branch, and of BZ.V and BNZ.V without their bits
  quiet : (c : Class) (f : Formats) (k : ℕ) → (c ≡ class.Branch → ⊥) → (c ≡ class.BranchV → bits w 22 21 ≡ 3 → ⊥)
      → Quiet (read_class c f k w)
  quiet class.Reserved f k h g = refl
  quiet class.Three f k h g = cond-elim Quiet (has f (df w)) _ _ (λ e. refl) (λ e. refl)
  quiet class.Indexed f k h g = cond-elim Quiet (has f (df w)) _ _ (λ e. refl) (λ e. refl)
  quiet class.Imm5U f k h g = cond-elim Quiet (has f (df w)) _ _ (λ e. refl) (λ e. refl)
  quiet class.Imm5S f k h g = cond-elim Quiet (has f (df w)) _ _ (λ e. refl) (λ e. refl)
  quiet class.Ldi f k h g = cond-elim Quiet (has f (df w)) _ _ (λ e. refl) (λ e. refl)
  quiet class.Bit f k h g = cond-elim Quiet (indexed? (bit_index (bits w 22 16)) f) _ _ (λ e. refl) (λ e. refl)
  quiet class.Imm8 f k h g = refl
  quiet class.Shf f k h g = cond-elim Quiet (has f (width_at (bits w 25 24))) _ _ (λ e. refl) (λ e. refl)
  quiet class.Element f k h g = cond-elim Quiet (indexed? (element_index (bits w 21 16)) f) _ _ (λ e. refl) (λ e. refl)
  quiet class.Insve f k h g = cond-elim Quiet (indexed? (element_index (bits w 21 16)) f) _ _ (λ e. refl) (λ e. refl)
  quiet class.Copy f k h g = cond-elim Quiet (indexed? (element_index (bits w 21 16)) f) _ _ (λ e. refl) (λ e. refl)
  quiet class.Insert f k h g = cond-elim Quiet (indexed? (element_index (bits w 21 16)) f) _ _ (λ e. refl) (λ e. refl)
  quiet class.Move f k h g = refl
  quiet class.Cfcmsa f k h g = refl
  quiet class.Ctcmsa f k h g = refl
  quiet class.Vec f k h g = refl
  quiet class.Fill f k h g = cond-elim Quiet (has f (width_at (bits w 17 16))) _ _ (λ e. refl) (λ e. refl)
  quiet class.Count f k h g = cond-elim Quiet (has f (width_at (bits w 17 16))) _ _ (λ e. refl) (λ e. refl)
  quiet class.Memory f k h g = cond-elim Quiet (has f (width_at (bits w 1 0))) _ _ (λ e. refl) (λ e. refl)
  quiet class.Branch f k h g = absurd (h refl)
  quiet class.BranchV f k h g =
      cond-elim Quiet (eqb (bits w 22 21) 3) _ _ (λ e. absurd (g refl (eqb-true _ _ e))) (λ e. refl)
  quiet class.Scaled f k h g = cond-elim Quiet (eqb (bits w 10 8) 0) _ _ (λ e. refl) (λ e. refl)
  quiet class.LeftOut f k h g = refl
  quiet class.Fixed f k h g = cond-elim Quiet (has f (hw w)) _ _ (λ e. refl) (λ e. refl)

  -- bits 31..21
  abbrev top : ℕ
  top = w / 2097152

  top-is : w < 2 ^ 32 → top ≡ 32 * bits w 31 26 + 4 * bits w 25 23 + bits w 22 21
  top-is small = omega arith

  low : ahead (bits w 15 0) ≡ ahead (w % 65536)
  low = ap ahead (omega arith)

  by_place : (n : ℕ) → place_of w ≡ n → forward (read_class (class_at n) (formats_at n) n w) ≡ ahead (bits w 15 0)
      → ahead (w % 65536) ≡ forward (read_of w)
  unfolding read_of
  by_place n q h = sym (rw q (h ∙ low))

  -- under the major opcode 010001, with n in bits 25..23: BZ.V or BNZ.V with 11 in bits 22..21; BZ or BNZ
  module _ (n : ℕ) (small : n < 8) (is : top / 4 ≡ 136 + n) where
    place_is : inside branch (440 + n) ≡ true → place_of w ≡ 440 + n
    place_is t = to-branch w (440 + n) (omega arith) (omega arith) t

    of-v : top % 4 ≡ 3 → inside branch (440 + n) ≡ true → class_at (440 + n) ≡ class.BranchV
        → ahead (w % 65536) ≡ forward (read_of w)
    of-v q t c = let e : bits w 22 21 ≡ 3 = omega arith in by_place (440 + n) (place_is t) (rw (c, e))

    of_format : inside branch (440 + n) ≡ true → class_at (440 + n) ≡ class.Branch → formats_at (440 + n) ≡ bhwd
        → ahead (w % 65536) ≡ forward (read_of w)
    of_format t c f = by_place (440 + n) (place_is t) (rw (c, f))

  other : w < 2 ^ 32 → (top ≡ 555 → ⊥) → (top ≡ 559 → ⊥) → (top / 8 ≡ 71 → ⊥) → true ≡ forward (read_of w)
  unfolding read_of
  other small a b c =
      sym (quiet (class_at (place_of w)) (formats_at (place_of w)) (place_of w)
      (λ q.
      let k = branch-at (place_of w) q in
      let u = found w branch (stood class.Branch (place_of w) q) in
      let t = top-is small in
      let s : bits w 22 21 < 4 = omega arith in
      c (omega (arith, u, t, k)))
      (λ q d.
      let k = branch-v-at (place_of w) q in
      let u = found w branch (stood class.BranchV (place_of w) q) in
      let t = top-is small in
      omega (arith, u, t, k, d)))

  -- by the test of these bits
  abbrev branch? : Bool
  branch? = eqb top 555 || eqb top 559 || eqb (top / 8) 71

  by_bits : w < 2 ^ 32 → cond branch? (ahead (w % 65536)) true ≡ forward (read_of w)
  unfolding row_at
  by_bits small = go (eqb top 555) (eqb top 559) (eqb (top / 8) 71) refl refl refl
    where
      go : (a b c : Bool) → eqb top 555 ≡ a → eqb top 559 ≡ b → eqb (top / 8) 71 ≡ c
          → cond (a || b || c) (ahead (w % 65536)) true ≡ forward (read_of w)
      go true b c p q r = let t = eqb-true top 555 p in of-v 2 (lit< tt) (omega arith) (omega arith) refl refl
      go false true c p q r = let t = eqb-true top 559 q in of-v 3 (lit< tt) (omega arith) (omega arith) refl refl
      go false false true p q r =
          let t = eqb-true (top / 8) 71 r in
          by_order (top / 4) 143 (λ l. of_format 6 (lit< tt) (omega arith) refl refl refl)
          (λ l. of_format 7 (lit< tt) (omega arith) refl refl refl)
      go false false false p q r = other small (eqb-false top 555 p) (eqb-false top 559 q) (eqb-false (top / 8) 71 r)

  pub branch-forward : w < 2 ^ 32 → branch? ≡ true → ahead (w % 65536) ≡ forward (read_of w)
  branch-forward small h = rw h at (by_bits small)

  pub other-forward : w < 2 ^ 32 → branch? ≡ false → true ≡ forward (read_of w)
  other-forward small h = rw h at (by_bits small)
