-- The word of an instruction reads as that instruction. Assumes nothing.
use mathlib.Core.Path.{◌≡◌, refl, sym, ap, ◌∙◌}
use mathlib.Core.Bool.{Bool, true, false}
use Prim.Native.Nat.{ℕ, ◌+◌, ◌/◌, ◌%◌, ◌<◌}
use native.Mathlib.Omega.{arith}
use borrow.Author.Tests.{ltb-true, ne_eqb}
use lib.Dec.{eqb, ltb}
use Rattle.isa.specs.declared.Width.{Width}
use Rattle.isa.specs.declared.Width.TheVariants.{B, H, W, D}
use Rattle.isa.specs.declared.Instr.{Instr}
use Rattle.isa.specs.declared.Instr.TheVariants as instr
use Rattle.std.specs.Prelude.{Ok, Option, Some, None}
use Rattle.isa.specs.Widths as format
use Rattle.isa.specs.Widths.{width_at, width_code}
use Rattle.ops.specs.declared.Class.{Class}
use Rattle.ops.specs.declared.Class.TheVariants as class
use Rattle.ops.specs.Packed.{class_code}
use Rattle.ops.specs.Places as place
use Rattle.ops.specs.Table.{row_at, class_at, formats_at, has_form}
use Rattle.fields.specs.Fields.{pick, both, bits, word_of, fits}
use Rattle.reading.specs.Index.{at, bit_index, element_index}
use Rattle.reading.proofs.Ranges.{in-range, past-range, range-index}
use Rattle.reading.specs.Reading.{minor, elm, place_of, read_class, read_of}
use Rattle.writing.specs.Writing as writing
use Rattle.writing.specs.Writing.{write_of, layout_of}
use Rattle.words.specs.Theorems.{WriteRead, WriteBelow}
use Rattle.fields.proofs.Fields.{both_left, both_right, cut, cut_word, word_lt, item}
use Rattle.writing.proofs.Shapes.{shaped}
use Rattle.words.proofs.Blocks.{inside, standing, stood, class-is, to-minor, to-i8, to-shf, to-elm, to-elm62}
use Rattle.words.proofs.Blocks.{to-float, to_vec, to-two, to-mi10, to-branch, to-special}
use Rattle.words.proofs.Fixed.{fixed-format}

-- what is known of an instruction that was written
pub record Fit (i : Instr) (w : ℕ) : Type 0 where
  pub ok : (layout_of i).ok ≡ true
  pub below : w < 4294967296
  pub held : cut (layout_of i).widths w ≡ (layout_of i).values
  pub fitting : fits (layout_of i).widths (layout_of i).values ≡ true

pick_word : (b : Bool) (v w : ℕ) → pick b (Some v) None ≡ Some w → (b ≡ true) × (v ≡ w)
pick_word true v w e = (refl, cc)
pick_word false v w e = absurd (let z : ◌≡◌ {A = ℕ} 0 1 = cc in omega arith)

sealed-word : (b : Bool) (a : Option ℕ) (w : ℕ) → pick b a None ≡ Some w → (b ≡ true) × (a ≡ Some w)
sealed-word true a w e = (refl, e)
sealed-word false a w e = absurd (let z : ◌≡◌ {A = ℕ} 0 1 = cc in omega arith)

pub fit : (i : Instr) (w : ℕ) → write_of i ≡ Some w → Fit i w
unfolding write_of
fit i w e =
    let l = layout_of i in
    let s = sealed-word l.ok (writing.packed l.widths l.values) w e in
    let p = pick_word (fits l.widths l.values) (word_of l.widths l.values) w s.1 in
    record {
      ok = s.0;
      below = rw (← p.1) (rw (shaped i).whole at (word_lt l.widths l.values p.0));
      held = rw (← p.1) (cut_word l.widths l.values p.0);
      fitting = p.0;
    }

-- ---- a format and an index from their field

bit-index : (df : Width) (m : ℕ) → ltb m (format.bits df) ≡ true → bit_index (writing.bit_code df m) ≡ at df m
bit-index D m e = in-range D 0 64 m _ (omega arith) (ltb-true m 64 e) ∙ ap (at D) (omega arith)
bit-index W m e = past-range D 0 64 (64 + m) _ (omega arith) ∙ range-index W 64 32 m _ (ltb-true m 32 e)
bit-index H m e =
    past-range D 0 64 (96 + m) _ (omega arith)
    ∙ past-range W 64 32 (96 + m) _ (omega arith)
    ∙ range-index H 96 16 m _ (ltb-true m 16 e)
bit-index B m e =
    past-range D 0 64 (112 + m) _ (omega arith)
    ∙ past-range W 64 32 (112 + m) _ (omega arith)
    ∙ past-range H 96 16 (112 + m) _ (omega arith)
    ∙ range-index B 112 8 m _ (ltb-true m 8 e)

element-index : (df : Width) (n : ℕ) → ltb n (format.elements df) ≡ true
    → element_index (writing.element_code df n) ≡ at df n
element-index B n e = in-range B 0 16 n _ (omega arith) (ltb-true n 16 e) ∙ ap (at B) (omega arith)
element-index H n e = past-range B 0 16 (32 + n) _ (omega arith) ∙ range-index H 32 8 n _ (ltb-true n 8 e)
element-index W n e =
    past-range B 0 16 (48 + n) _ (omega arith)
    ∙ past-range H 32 8 (48 + n) _ (omega arith)
    ∙ range-index W 48 4 n _ (ltb-true n 4 e)
element-index D n e =
    past-range B 0 16 (56 + n) _ (omega arith)
    ∙ past-range H 32 8 (56 + n) _ (omega arith)
    ∙ past-range W 48 4 (56 + n) _ (omega arith)
    ∙ range-index D 56 2 n _ (ltb-true n 2 e)

not-control : (df : Width) (n : ℕ) → ltb n (format.elements df) ≡ true → eqb (writing.element_code df n) 62 ≡ false
not-control B n e = let h = ltb-true n 16 e in ne_eqb n 62 (omega arith)
not-control H n e = let h = ltb-true n 8 e in ne_eqb (32 + n) 62 (omega arith)
not-control W n e = let h = ltb-true n 4 e in ne_eqb (48 + n) 62 (omega arith)
not-control D n e = let h = ltb-true n 2 e in ne_eqb (56 + n) 62 (omega arith)

-- ---- the class at the place that the fields hold

width_back : (df : Width) → width_at (width_code df) ≡ df
width_back = elim [ B ↦ refl | H ↦ refl | W ↦ refl | D ↦ refl ]

pub record Alone : Type 0 where
  pub ldi : class_at place.ldi ≡ class.Ldi
  pub shf : class_at place.shf ≡ class.Shf
  pub insert : class_at place.insert ≡ class.Insert
  pub insve : class_at place.insve ≡ class.Insve
  pub ctcmsa : class_at place.ctcmsa ≡ class.Ctcmsa
  pub cfcmsa : class_at place.cfcmsa ≡ class.Cfcmsa
  pub move : class_at place.move ≡ class.Move
  pub fill : class_at place.fill ≡ class.Fill

pub alone : Alone
unfolding row_at
alone = record {
  ldi = refl;
  shf = refl;
  insert = refl;
  insve = refl;
  ctcmsa = refl;
  cfcmsa = refl;
  move =
      refl;
  fill = refl;
}

-- an operation of its class, and what else was asked
pub of : (c : Class) (k : ℕ) (x : Bool) → both (eqb (class_code (class_at k)) (class_code c)) x ≡ true
    → (class_at k ≡ c) × (x ≡ true)
of c k x t = (
  class-is c k (both_left (eqb (class_code (class_at k)) (class_code c)) x t),
  both_right (eqb (class_code (class_at k)) (class_code c)) x t,
)

-- the same with an index
pub of-index : (c : Class) (k : ℕ) (x y : Bool) → both (both (eqb (class_code (class_at k)) (class_code c)) x) y ≡ true
    → (class_at k ≡ c) × (x ≡ true) × (y ≡ true)
of-index c k x y t =
    let p = of c k x (both_left (both (eqb (class_code (class_at k)) (class_code c)) x) y t) in
    (p.0, p.1, both_right (both (eqb (class_code (class_at k)) (class_code c)) x) y t)

by : (w k : ℕ) (c : Class) → place_of w ≡ k → class_at k ≡ c → read_of w ≡ read_class c (formats_at k) k w
unfolding read_of
by w k c p e = rw (p, e)

-- 3R, I5 and BIT
by-minor : (w k : ℕ) (c : Class) → class_at k ≡ c → standing c k ≡ inside minor k → bits w 31 26 ≡ 30
    → bits w 25 23 ≡ k % 8
    → bits w 5 0 ≡ k / 8 → read_of w ≡ read_class c (formats_at k) k w
by-minor w k c e s a b m = by w k c (to-minor w k a b m (sym s ∙ stood c k e)) e

-- ELM
by-elm : (w k : ℕ) (c : Class) (df : Width) (n : ℕ) → class_at k ≡ c → inside elm k ≡ true
    → ltb n (format.elements df) ≡ true
    → bits w 31 26 ≡ 30 → bits w 25 22 ≡ k % 16 → bits w 21 16 ≡ writing.element_code df n → bits w 5 0 ≡ 25
    → read_of w ≡ read_class c (formats_at k) k w
by-elm w k c df n e s ok a b x m = by w k c (to-elm w k a b m (rw x (not-control df n ok)) s) e

-- ---- the answer by the instruction

reads : (i : Instr) (w : ℕ) → Fit i w → read_of w ≡ Ok i
reads (instr.Three k df wd ws wt) w f =
    let h = f.held in
    let o = of class.Three k.0 (has_form k.0 df) f.ok in
    by-minor w k.0 class.Three o.0 refl (item h 0) (item h 1) (item h 6)
    ∙ rw (item h 2, width_back df, o.1, item h 3, item h 4, item h 5)
reads (instr.Indexed k df wd ws rt) w f =
    let h = f.held in
    let o = of class.Indexed k.0 (has_form k.0 df) f.ok in
    by-minor w k.0 class.Indexed o.0 refl (item h 0) (item h 1) (item h 6)
    ∙ rw (item h 2, width_back df, o.1, item h 3, item h 4, item h 5)
reads (instr.Imm5U k df wd ws imm) w f =
    let h = f.held in
    let o = of class.Imm5U k.0 (has_form k.0 df) f.ok in
    by-minor w k.0 class.Imm5U o.0 refl (item h 0) (item h 1) (item h 6)
    ∙ rw (item h 2, width_back df, o.1, item h 3, item h 4, item h 5)
reads (instr.Imm5S k df wd ws imm) w f =
    let h = f.held in
    let o = of class.Imm5S k.0 (has_form k.0 df) f.ok in
    by-minor w k.0 class.Imm5S o.0 refl (item h 0) (item h 1) (item h 6)
    ∙ rw (item h 2, width_back df, o.1, item h 3, item h 4, item h 5)
reads (instr.Ldi df wd imm) w f =
    let h = f.held in
    by-minor w place.ldi class.Ldi alone.ldi refl (item h 0) (item h 1) (item h 5)
    ∙ rw (item h 2, width_back df, f.ok, item h 3, item h 4)
reads (instr.Bit k df wd ws m) w f =
    let h = f.held in
    let o = of-index class.Bit k.0 (has_form k.0 df) (ltb m (format.bits df)) f.ok in
    by-minor w k.0 class.Bit o.0 refl (item h 0) (item h 1) (item h 5)
    ∙ rw (item h 2, bit-index df m o.2, o.1, item h 3, item h 4)
reads (instr.Imm8 k wd ws imm) w f =
    let h = f.held in
    let e = class-is class.Imm8 k.0 f.ok in
    by w k.0 class.Imm8 (to-i8 w k.0 (item h 0) (item h 1) (item h 5) (stood class.Imm8 k.0 e)) e
    ∙ rw (item h 2, item h 3, item h 4)
reads (instr.Shf df wd ws imm) w f =
    let h = f.held in
    by w place.shf class.Shf (to-shf w (item h 0) (item h 5)) alone.shf
    ∙ rw (item h 1, width_back df, f.ok, item h 2, item h 3, item h 4)
reads (instr.Element k df wd ws n) w f =
    let h = f.held in
    let o = of-index class.Element k.0 (has_form k.0 df) (ltb n (format.elements df)) f.ok in
    by-elm w k.0 class.Element df n o.0 (stood class.Element k.0 o.0) o.2 (item h 0) (item h 1)
    (item h 2) (item h 5)
    ∙ rw (item h 2, element-index df n o.2, o.1, item h 3, item h 4)
reads (instr.Copy k df rd ws n) w f =
    let h = f.held in
    let o = of-index class.Copy k.0 (has_form k.0 df) (ltb n (format.elements df)) f.ok in
    by-elm w k.0 class.Copy df n o.0 (stood class.Copy k.0 o.0) o.2 (item h 0) (item h 1) (item h 2)
    (item h 5)
    ∙ rw (item h 2, element-index df n o.2, o.1, item h 3, item h 4)
reads (instr.Insve df wd n ws) w f =
    let h = f.held in
    let has = both_left (has_form place.insve df) (ltb n (format.elements df)) f.ok in
    let ok = both_right (has_form place.insve df) (ltb n (format.elements df)) f.ok in
    by-elm w place.insve class.Insve df n alone.insve refl ok (item h 0) (item h 1) (item h 2) (item h 5)
    ∙ rw (item h 2, element-index df n ok, has, item h 3, item h 4)
reads (instr.Insert df wd n rs) w f =
    let h = f.held in
    let has = both_left (has_form place.insert df) (ltb n (format.elements df)) f.ok in
    let ok = both_right (has_form place.insert df) (ltb n (format.elements df)) f.ok in
    by-elm w place.insert class.Insert df n alone.insert refl ok (item h 0) (item h 1) (item h 2) (item h 5)
    ∙ rw (item h 2, element-index df n ok, has, item h 3, item h 4)
reads (instr.Move wd ws) w f =
    let h = f.held in
    by w place.move class.Move (to-elm62 w place.move (item h 0) (item h 1) (item h 5) (item h 2) refl) alone.move
    ∙ rw (item h 3, item h 4)
reads (instr.Cfcmsa rd cs) w f =
    let h = f.held in
    by w place.cfcmsa class.Cfcmsa (to-elm62 w place.cfcmsa (item h 0) (item h 1) (item h 5) (item h 2) refl)
    alone.cfcmsa
    ∙ rw (item h 3, item h 4)
reads (instr.Ctcmsa cd rs) w f =
    let h = f.held in
    by w place.ctcmsa class.Ctcmsa (to-elm62 w place.ctcmsa (item h 0) (item h 1) (item h 5) (item h 2) refl)
    alone.ctcmsa
    ∙ rw (item h 3, item h 4)
reads (instr.Vec k wd ws wt) w f =
    let h = f.held in
    let e = class-is class.Vec k.0 f.ok in
    by w k.0 class.Vec (to_vec w k.0 (item h 0) (item h 1) (item h 5) (stood class.Vec k.0 e)) e
    ∙ rw (item h 2, item h 3, item h 4)
reads (instr.Fill df wd rs) w f =
    let h = f.held in
    by w place.fill class.Fill (to-two w place.fill (item h 0) (item h 1) (item h 2) (item h 6) refl) alone.fill
    ∙ rw (item h 3, width_back df, f.ok, item h 4, item h 5)
reads (instr.Count k df wd ws) w f =
    let h = f.held in
    let o = of class.Count k.0 (has_form k.0 df) f.ok in
    by w k.0 class.Count (to-two w k.0 (item h 0) (item h 1) (item h 2) (item h 6) (stood class.Count k.0
    o.0)) o.0
    ∙ rw (item h 3, width_back df, o.1, item h 4, item h 5)
reads (instr.Memory k df wd offset rs) w f =
    let h = f.held in
    let o = of class.Memory k.0 (has_form k.0 df) f.ok in
    by w k.0 class.Memory (to-mi10 w k.0 (item h 0) (item h 4) (stood class.Memory k.0 o.0)) o.0
    ∙ rw (item h 5, width_back df, o.1, item h 1, item h 2, item h 3)
reads (instr.Branch k df wt offset) w f =
    let h = f.held in
    let o = of class.Branch k.0 (has_form k.0 df) f.ok in
    by w k.0 class.Branch (to-branch w k.0 (item h 0) (item h 1) (stood class.Branch k.0 o.0)) o.0
    ∙ rw (item h 2, width_back df, o.1, item h 3, item h 4)
reads (instr.BranchV k wt offset) w f =
    let h = f.held in
    let e = class-is class.BranchV k.0 f.ok in
    by w k.0 class.BranchV (to-branch w k.0 (item h 0) (item h 1) (stood class.BranchV k.0 e)) e
    ∙ rw (item h 2, item h 3, item h 4)
reads (instr.Scaled k rd rs rt sa) w f =
    let h = f.held in
    let e = class-is class.Scaled k.0 f.ok in
    by w k.0 class.Scaled (to-special w k.0 (item h 0) (item h 6) (stood class.Scaled k.0 e)) e
    ∙ rw (item h 4, item h 1, item h 2, item h 3, item h 5)
reads (instr.Fixed k df wd ws wt) w f =
    let h = f.held in
    let o = of class.Fixed k.0 (has_form k.0 df) f.ok in
    by w k.0 class.Fixed (to-float w k.0 (item h 0) (item h 1) (item h 6) (stood class.Fixed k.0
    o.0)) o.0
    ∙ rw (item h 2, fixed-format k.0 df o.0 o.1, o.1, item h 3, item h 4, item h 5)

-- each instruction that can be written reads back as itself
pub write_read : WriteRead
write_read i w e = reads i w (fit i w e)

pub write-below : WriteBelow
write-below i w e = (fit i w e).below
