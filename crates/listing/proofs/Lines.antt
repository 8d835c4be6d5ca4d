-- No line is longer than 64 bytes, and what writing one answers. Assumes nothing.
use mathlib.Core.Path.{◌≡◌, refl, sym, ap, ◌∙◌, subst}
use mathlib.Core.Bool.{Bool, true, false}
use mathlib.Core.List.{List, ◌++◌, append_assoc}
use Prim.Native.Nat.{ℕ, ◌≤◌}
use native.Mathlib.Omega.{arith}
use borrow.Author.Tests.{leb-true, eq-eqb, ne_eqb}
use lib.Dec.{eqb, leb}
use lib.ListN.{length, length-append}
use Rattle.isa.specs.declared.Instr.{Instr}
use Rattle.isa.specs.declared.Instr.TheVariants as instr
use Rattle.std.specs.Prelude.{Ok, Err, Result, Option, Some, None}
use Rattle.isa.specs.declared.Unread.{Unread}
use Rattle.shown.specs.declared.Form.{Form}
use Rattle.shown.specs.declared.Form.TheVariants.{Bare, Each, Whole}
use Rattle.shown.specs.declared.Shown.{Shown}
use Rattle.listing.specs.declared.Part.TheVariants.{Address, Word, Text}
use Rattle.fields.specs.Fields.{pick}
use Rattle.isa.specs.Numbers.{number, values, unread_number}
use Rattle.reading.specs.Reading.{read_of}
use Rattle.text.specs.Text.{bytes, Room, padded}
use Rattle.text.specs.Numerals.{hex}
use Rattle.text.proofs.Numerals.{decimal-length, hex-length}
use Rattle.operands.proofs.Lengths.{most_of, operands-fit}
use Rattle.ops.proofs.Names.{name-short}
use Rattle.shown.specs.Shown.{shown_of}
use Rattle.listing.specs.Listing.{form_text, shown_text, read_text, text_of, line_of, part_text}
use Rattle.listing.specs.Listing.{line_said, line_answer, Lists}

-- the text, written out
pub line-text : (a w : ℕ) → hex a ++ bytes ": " ++ hex w ++ bytes " " ++ text_of w ≡ line_of a w
unfolding line_of
line-text a w = refl

-- the parts joined are the line
pub line-parts : (line : List ℕ) (at a w : ℕ)
    → part_text line at (Address a) ++ part_text line at (Word w) ++ part_text line at (Text w) ≡ line_of a w
line-parts line at a w =
    ap (λ (l : List ℕ). l ++ text_of w) (sym (append_assoc (hex a ++ bytes ": ") (hex w) (bytes " "))) ∙ line-text a w

-- ---- how long it may be

small : (i : Instr) → leb (most_of (shown_of i)) 29 ≡ true
small (instr.Three k df wd ws wt) = refl
small (instr.Indexed k df wd ws rt) = refl
small (instr.Imm5U k df wd ws imm) = refl
small (instr.Imm5S k df wd ws imm) = refl
small (instr.Ldi df wd imm) = refl
small (instr.Bit k df wd ws m) = refl
small (instr.Imm8 k wd ws imm) = refl
small (instr.Shf df wd ws imm) = refl
small (instr.Element k df wd ws n) = refl
small (instr.Insve df wd n ws) = refl
small (instr.Copy k df rd ws n) = refl
small (instr.Insert df wd n rs) = refl
small (instr.Move wd ws) = refl
small (instr.Cfcmsa rd cs) = refl
small (instr.Ctcmsa cd rs) = refl
small (instr.Vec k wd ws wt) = refl
small (instr.Fill df wd rs) = refl
small (instr.Count k df wd ws) = refl
small (instr.Memory k df wd offset rs) = refl
small (instr.Branch k df wt offset) = refl
small (instr.BranchV k wt offset) = refl
small (instr.Scaled k rd rs rt sa) = refl
small (instr.Fixed k df wd ws wt) = refl

form-fits : (f : Form) → length (form_text f) ≤ 2
form-fits Bare = omega arith
form-fits (Each df) = omega arith
form-fits Whole = omega arith

shown-fits : (s : Shown) → most_of s ≤ 29 → length (shown_text s) ≤ 40
shown-fits s h =
    simp length-append
    (omega (arith, name-short s.name, form-fits s.form, simp length-append at (operands-fit s)))

read_fits : (r : Result Instr Unread) → length (read_text r) ≤ 40
read_fits (Err u) = omega (arith, decimal-length (unread_number u))
read_fits (Ok i) = shown-fits (shown_of i) (leb-true (most_of (shown_of i)) 29 (small i))

pub line-fits : (a w : ℕ) → length (line_of a w) ≤ 64
line-fits a w =
    subst (λ (l : List ℕ). length l ≤ 64) (line-text a w)
    (simp length-append (omega (arith, hex-length a, hex-length w, read_fits (read_of w))))

-- ---- the answer

module _ (line : List ℕ) (a w : ℕ) where
  pub refused : (length line ≡ 64 → ⊥) → Lists line a w None line
  refused h = record { said = rw (ne_eqb (length line) 64 h); line = rw (ne_eqb (length line) 64 h) }

  module _ (h : length line ≡ 64) where
    pub room : Room line 0 (line_of a w)
    room = record { fits = omega (arith, line-fits a w) }

    pub listed : {after : List ℕ} {n : ℕ} → (n ≡ length (line_of a w)) × (after ≡ padded (length line) (line_of a w))
        → Lists line a w (Some n) after
    listed e =
        let t : eqb (length line) 64 ≡ true = eq-eqb (length line) 64 h in
        record { said = rw (t, e.0); line = rw t (e.1 ∙ ap (λ (n : ℕ). padded n (line_of a w)) h) }

-- what was answered is the line's length, which a line holds
pub answered-fits : (line : List ℕ) (a w : ℕ) {r : Option ℕ} {n : ℕ}
    → line_said r ≡ line_answer line a w → r ≡ Some n → n ≤ 64
answered-fits line a w {r} {n} e f = by (eqb (length line) 64) (sym (ap line_said f) ∙ e)
  where
    by : (b : Bool) → values n ≡ pick b (values (length (line_of a w))) (number 7) → n ≤ 64
    by true g = let h : n ≡ length (line_of a w) = cc in omega (arith, line-fits a w)
    by false g = absurd (let z : ◌≡◌ {A = ℕ} 0 1 = cc in omega arith)
