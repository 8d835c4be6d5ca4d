-- A word that reads as an instruction is the word of that instruction. Assumes nothing.
use mathlib.Core.Path.{◌≡◌, refl, sym, subst}
use mathlib.Core.Bool.{Bool, true, false, cond}
use mathlib.Core.List.{[], ◌∷◌}
use Prim.Native.Nat.{ℕ, zero, suc, ◌-◌, ◌/◌, ◌%◌, ◌^◌, ◌<◌}
use native.Mathlib.Omega.{arith}
use borrow.Author.Tests.{eqb-true, eqb-false, lt-ltb}
use lib.Dec.{eqb, ltb}
use Rattle.isa.specs.declared.Width.TheVariants.{B, H, W, D}
use Rattle.isa.specs.declared.Instr.{Instr}
use Rattle.isa.specs.declared.Instr.TheVariants as instr
use Rattle.isa.specs.declared.Unread.TheVariants.{Unassigned, LeftOut, Other}
use Rattle.std.specs.Prelude.{Ok, Err, Result, Some}
use Rattle.isa.specs.declared.Unread.{Unread}
use Rattle.isa.specs.Widths as format
use Rattle.isa.specs.Widths.{width_at, width_code, hw_at, hw_code}
use Rattle.ops.specs.declared.Class.{Class}
use Rattle.ops.specs.declared.Class.TheVariants as class
use Rattle.ops.specs.Places as place
use Rattle.ops.specs.Table.{class_at, formats_at, has_form}
use Rattle.fields.specs.Fields.{both, bits, total}
use Rattle.reading.specs.Index.{Index, bit_index, element_index}
use Rattle.reading.proofs.Ranges.{by-range}
use Rattle.reading.specs.Reading as reading
use Rattle.reading.specs.Reading.{Block, i8, minor, elm, elm62, vec, float, two, mi10, branch, special, shf}
use Rattle.reading.specs.Reading.{place_in, place_of, op, df, hw, vd, vs, vt, ga, gd, gs, gt, read_of, read_class, vacant}
use Rattle.writing.specs.Writing as writing
use Rattle.writing.specs.Writing.{write_of, layout_of}
use Rattle.words.specs.Theorems.{ReadWrite}
use Rattle.fields.proofs.Fields.{both_left, both_right, cut, word_cut, fits_cut}
use Rattle.writing.proofs.Shapes.{shaped}
use Rattle.words.proofs.Blocks.{Facts, inside, cond-elim, found, stood, at-28, sole}

-- an instruction whose fields are those of the word is written as the word
writes : (i : Instr) (w : ℕ) → w < 4294967296 → (layout_of i).ok ≡ true
    → (layout_of i).values ≡ cut (layout_of i).widths w → write_of i ≡ Some w
unfolding write_of
writes i w h ok e =
    let l : w < 2 ^ total (layout_of i).widths = rw (shaped i).whole h in
    rw (ok, e, fits_cut (layout_of i).widths w, word_cut (layout_of i).widths w l)

-- a format's number
code-width : (k : ℕ) → k < 4 → width_code (width_at k) ≡ k
code-width zero h = refl
code-width (suc zero) h = refl
code-width (suc (suc zero)) h = refl
code-width (suc (suc (suc zero))) h = refl
code-width (suc (suc (suc (suc k)))) h = absurd (omega arith)

code-hw : (k : ℕ) → k < 2 → hw_code (hw_at k) ≡ k
code-hw zero h = refl
code-hw (suc zero) h = refl
code-hw (suc (suc k)) h = absurd (omega arith)

-- field by field
fields : {a b c d e f g a' b' c' d' e' f' g' : ℕ} → a ≡ a' → b ≡ b' → c ≡ c' → d ≡ d' → e ≡ e' → f ≡ f' → g ≡ g'
    → a ∷ b ∷ c ∷ d ∷ e ∷ f ∷ g ∷ [] ≡ a' ∷ b' ∷ c' ∷ d' ∷ e' ∷ f' ∷ g' ∷ []
fields p q r s t u v = λ i. p i ∷ q i ∷ r i ∷ s i ∷ t i ∷ u i ∷ v i ∷ []

-- what is to be shown of an answer: the major opcode where the word is not read, the round trip where it is
unfoldable pub Back : ℕ → Result Instr Unread → Type 0
Back w (Err Unassigned) = 30 ≡ bits w 31 26
Back w (Err LeftOut) = 30 ≡ bits w 31 26
Back w (Err Other) = 30 ≡ bits w 31 26 → ⊥
Back w (Ok i) = write_of i ≡ Some w

-- a field that holds a format and an index is that of both
abbrev BitOk : ℕ → Index → Type 0
BitOk x i = i.ok ≡ true → (writing.bit_code i.df i.n ≡ x) × (ltb i.n (format.bits i.df) ≡ true)

abbrev ElementOk : ℕ → Index → Type 0
ElementOk x i = i.ok ≡ true → (writing.element_code i.df i.n ≡ x) × (ltb i.n (format.elements i.df) ≡ true)

no : {A : Type 0} → false ≡ true → A
no e = absurd (let z : ◌≡◌ {A = ℕ} 0 1 = cc in omega arith)

bit-index : (x : ℕ) → BitOk x (bit_index x)
bit-index x =
    by-range D 0 64 x _ (BitOk x) (λ l h e. (omega arith, lt-ltb (x - 0) 64 (omega arith)))
    (by-range W 64 32 x _ (BitOk x) (λ l h e. (omega arith, lt-ltb (x - 64) 32 (omega arith)))
    (by-range H 96 16 x _ (BitOk x) (λ l h e. (omega arith, lt-ltb (x - 96) 16 (omega arith)))
    (by-range B 112 8 x _ (BitOk x) (λ l h e. (omega arith, lt-ltb (x - 112) 8 (omega arith)))
    (λ e. no e))))

element-index : (x : ℕ) → ElementOk x (element_index x)
element-index x =
    by-range B 0 16 x _ (ElementOk x) (λ l h e. (omega arith, lt-ltb (x - 0) 16 (omega arith)))
    (by-range H 32 8 x _ (ElementOk x) (λ l h e. (omega arith, lt-ltb (x - 32) 8 (omega arith)))
    (by-range W 48 4 x _ (ElementOk x) (λ l h e. (omega arith, lt-ltb (x - 48) 4 (omega arith)))
    (by-range D 56 2 x _ (ElementOk x) (λ l h e. (omega arith, lt-ltb (x - 56) 2 (omega arith)))
    (λ e. no e))))

module _ (w : ℕ) (h : w < 4294967296) where
  abbrev k : ℕ
  k = place_of w

  -- a field of no bits
  none : 0 ≡ w / 1 % 1
  none = omega arith

  df-code : width_code (df w) ≡ bits w 22 21
  df-code = code-width (bits w 22 21) (omega arith)

  instr-back : (i : Instr) → write_of i ≡ Some w → Back w (Ok i)
  unfolding Back
  instr-back i e = e

  vacant-back : Back w (vacant w)
  unfolding Back
  vacant-back =
      cond-elim (λ u. Back w (Err u)) (eqb (bits w 31 26) 30) _ _ (λ e. sym (eqb-true _ _ e))
      (λ n m. eqb-false _ _ n (sym m))

  -- an answer that is given where a test holds
  given_back : (ok : Bool) (i : Instr) → (ok ≡ true → write_of i ≡ Some w) → Back w (reading.given w ok i)
  given_back ok i f = cond-elim (Back w) ok _ _ (λ e. instr-back i (f e)) (λ e. vacant-back)

  -- under the minor opcodes with three bits for the operation: 3R, I5 and BIT
  module _ (f : Facts minor w × (k ≡ place_in minor w)) where
    column : k % 8 ≡ bits w 25 23
    column = let p = f.1 in omega arith

    row : k / 8 ≡ bits w 5 0
    row = let p = f.1 in omega arith

    five-back : (ok : Bool) (i : Instr)
        → (ok ≡ true
        → layout_of i ≡ writing.five_layout true (op k) (df w) (bits w 20 16) (bits w 15 11) (bits w 10 6))
        → Back w (reading.given w ok i)
    five-back ok i e =
        given_back ok i
        (λ t. writes i w h (rw (e t)) (rw (e t) (fields f.0.0 column df-code refl refl refl row)))

  -- with a format and an index, where both are
  module _ (x : Index) (has : Bool) (t : both x.ok has ≡ true) where
    ok-part : x.ok ≡ true
    ok-part = both_left x.ok has t

    has_part : has ≡ true
    has_part = both_right x.ok has t

  abbrev dfn : Index
  dfn = element_index (bits w 21 16)

  abbrev has : Bool
  has = has_form k dfn.df

  -- an element's format and index: what is asked of them, and the word of an instruction with them
  module _ (t : both dfn.ok has ≡ true) where
    index-code : writing.element_code dfn.df dfn.n ≡ bits w 21 16
    index-code = (element-index (bits w 21 16) (ok-part dfn has t)).0

    index-small : ltb dfn.n (format.elements dfn.df) ≡ true
    index-small = (element-index (bits w 21 16) (ok-part dfn has t)).1

  elm-back : (i : Instr) → Facts elm w × (k ≡ place_in elm w)
      → (ltb dfn.n (format.elements dfn.df) ≡ true → has ≡ true
      → layout_of i ≡ writing.elm_layout true (k % 16) (writing.element_code dfn.df dfn.n) (bits w 15 11) (bits w 10 6))
      → Back w (reading.given w (both dfn.ok has) i)
  elm-back i f e =
      let p = f.1 in
      given_back (both dfn.ok has) i
      (λ t. let q = e (index-small t) (has_part dfn has t) in
      writes i w h (rw q) (rw q (fields f.0.0 (omega arith) (index-code t) refl refl f.0.1 none)))

  -- with 111110
  control-back : (i : Instr) (n : ℕ) → k ≡ place.elm62 n
      → layout_of i ≡ writing.elm_layout true n 62 (bits w 15 11) (bits w 10 6)
      → inside elm62 (place.elm62 n) ≡ true → n < 16 → write_of i ≡ Some w
  control-back i n q e t small =
      let f = found w elm62 (rw q t) in
      let p = f.1 in
      writes i w h (rw e) (rw e (fields f.0.0 (omega arith) f.0.2 refl refl f.0.1 none))

  left_back : (b : Bool) → cond b (inside vec k) (inside float k) ≡ true → Back w (Err LeftOut)
  unfolding Back
  left_back true t = (found w vec t).0.0
  left_back false t = (found w float t).0.0

  class_back : (c : Class) → class_at k ≡ c → Back w (read_class c (formats_at k) k w)
  class_back class.Reserved e = vacant-back
  class_back class.Three e =
      five-back (found w minor (stood class.Three k e)) (has_form k (df w))
      (instr.Three (op k) (df w) (vd w) (vs w) (vt w))
      (λ ok. rw (e, ok))
  class_back class.Indexed e =
      five-back (found w minor (stood class.Indexed k e)) (has_form k (df w))
      (instr.Indexed (op k) (df w) (vd w) (vs w) (gt w))
      (λ ok. rw (e, ok))
  class_back class.Imm5U e =
      five-back (found w minor (stood class.Imm5U k e)) (has_form k (df w))
      (instr.Imm5U (op k) (df w) (vd w) (vs w) (bits w 20 16))
      (λ ok. rw (e, ok))
  class_back class.Imm5S e =
      five-back (found w minor (stood class.Imm5S k e)) (has_form k (df w))
      (instr.Imm5S (op k) (df w) (vd w) (vs w) (bits w 20 16))
      (λ ok. rw (e, ok))
  class_back class.Ldi e =
      let p = sole class.Ldi k place.ldi e refl in
      let f = found w minor (rw p) in
      given_back (has_form k (df w)) (instr.Ldi (df w) (vd w) (bits w 20 11)) (λ ok. writes _ w h (rw p at ok)
      (fields f.0.0 (rw p at (column f)) df-code refl refl (rw p at (row f)) none))
  class_back class.Bit e =
      let x = bit_index (bits w 22 16) in
      let f = found w minor (stood class.Bit k e) in
      given_back (both x.ok (has_form k x.df)) (instr.Bit (op k) x.df (vd w) (vs w) x.n)
      (λ t. let i = bit-index (bits w 22 16) (ok-part x (has_form k x.df) t) in
      writes _ w h (rw (
        e,
        has_part x (has_form k x.df) t,
        i.1,
      )) (fields f.0.0 (column f) i.0 refl refl (row f) none))
  class_back class.Imm8 e =
      let f = found w i8 (stood class.Imm8 k e) in
      let p = f.1 in
      instr-back _ (writes _ w h (rw e) (fields f.0.0 (omega arith) refl refl refl (omega arith) none))
  class_back class.Shf e =
      let p = sole class.Shf k place.shf e refl in
      let f = found w shf (rw p) in
      given_back (has_form k (width_at (bits w 25 24))) (instr.Shf (width_at (bits w 25 24)) (vd w) (vs w)
      (bits w 23 16)) (λ ok. writes _ w h (rw p at ok) (fields f.0.0 (code-width (bits w 25 24)
      (omega arith)) refl refl refl f.0.1 none))
  class_back class.Element e =
      elm-back (instr.Element (op k) dfn.df (vd w) (vs w) dfn.n) (found w elm (stood class.Element k e))
      (λ s m. rw (e, m, s))
  class_back class.Insve e =
      let q = sole class.Insve k place.insve e refl in
      elm-back (instr.Insve dfn.df (vd w) dfn.n (vs w)) (found w elm (rw q)) (λ s m. rw (q, rw q at m, s))
  class_back class.Copy e =
      elm-back (instr.Copy (op k) dfn.df (gd w) (vs w) dfn.n) (found w elm (stood class.Copy k e))
      (λ s m. rw (e, m, s))
  class_back class.Insert e =
      let q = sole class.Insert k place.insert e refl in
      elm-back (instr.Insert dfn.df (vd w) dfn.n (gs w)) (found w elm (rw q)) (λ s m. rw (q, rw q at m, s))
  class_back class.Move e = instr-back _ (control-back _ _ (sole class.Move k place.move e refl) refl refl
      (omega arith))
  class_back class.Cfcmsa e = instr-back _ (control-back _ _ (sole class.Cfcmsa k place.cfcmsa e refl) refl refl
      (omega arith))
  class_back class.Ctcmsa e = instr-back _ (control-back _ _ (sole class.Ctcmsa k place.ctcmsa e refl) refl refl
      (omega arith))
  class_back class.Vec e =
      let f = found w vec (both_left (inside vec k) _ (stood class.Vec k e)) in
      let p = f.1 in
      instr-back _ (writes _ w h (rw e) (fields f.0.0 (omega arith) refl refl refl f.0.1 none))
  class_back class.Fill e =
      let q = sole class.Fill k place.fill e refl in
      let f = found w two (rw q) in
      let p = f.1 in
      given_back (has_form k (width_at (bits w 17 16))) (instr.Fill (width_at (bits w 17 16)) (vd w) (gs w))
      (λ ok. writes _ w h (rw q at ok) (fields f.0.0 f.0.2 (omega arith) (code-width (bits w 17 16)
      (omega arith)) refl refl f.0.1))
  class_back class.Count e =
      let f = found w two (stood class.Count k e) in
      let p = f.1 in
      given_back (has_form k (width_at (bits w 17 16))) (instr.Count (op k) (width_at (bits w 17 16)) (vd w) (vs w))
      (λ ok. writes _ w h (rw (e, ok)) (fields f.0.0 f.0.2 (omega arith) (code-width (bits w 17 16)
      (omega arith)) refl refl f.0.1))
  class_back class.Memory e =
      let f = found w mi10 (both_left (inside mi10 k) _ (stood class.Memory k e)) in
      let p = f.1 in
      given_back (has_form k (width_at (bits w 1 0))) (instr.Memory (op k) (width_at (bits w 1 0)) (vd w)
      (bits w 25 16) (gs w))
      (λ ok. writes _ w h (rw (e, ok)) (fields f.0.0 refl refl refl (omega arith) (code-width (bits w 1 0)
      (omega arith)) none))
  class_back class.Branch e =
      let f = found w branch (stood class.Branch k e) in
      let p = f.1 in
      given_back (has_form k (df w)) (instr.Branch (op k) (df w) (vt w) (bits w 15 0)) (λ ok. writes _ w h (rw (
        e,
        ok,
      )) (fields f.0 (omega arith) df-code refl refl none none))
  class_back class.BranchV e =
      let f = found w branch (stood class.BranchV k e) in
      let p = f.1 in
      given_back (eqb (bits w 22 21) 3) (instr.BranchV (op k) (vt w) (bits w 15 0)) (λ ok. writes _ w h (rw e)
      (fields f.0 (omega arith) (sym (eqb-true _ _ ok)) refl refl none none))
  class_back class.Scaled e =
      let f = found w special (stood class.Scaled k e) in
      let p = f.1 in
      given_back (eqb (bits w 10 8) 0) (instr.Scaled (op k) (gs w) (ga w) (gt w) (bits w 7 6)) (λ ok. writes _ w h
      (rw e) (fields f.0 refl refl refl (sym (eqb-true _ _ ok)) refl (omega arith)))
  class_back class.LeftOut e = left_back (ltb k 384) (stood class.LeftOut k e)
  class_back class.Fixed e =
      let s = stood class.Fixed k e in
      let f = found w float (both_left (inside float k) _ s) in
      let r = at-28 k s in
      let p = f.1 in
      given_back (has_form k (hw w)) (instr.Fixed (op k) (hw w) (vd w) (vs w) (vt w))
      (λ ok. writes _ w h (rw (e, ok)) (fields f.0.0 (omega arith) (code-hw (bits w 21 21) (omega arith))
      refl refl refl (omega arith)))

  pub back : Back w (read_of w)
  unfolding read_of
  back = class_back (class_at k) refl

-- each word that reads as an instruction is what the instruction is written as
pub read-write : ReadWrite
unfolding Back
read-write w i h e = subst (Back w) e (back w h)
