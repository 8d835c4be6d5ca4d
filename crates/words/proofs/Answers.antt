-- The answers to a word under its major opcode, what is formed, and that the promises leave one answer. Assumes
-- nothing.
use mathlib.Core.Path.{refl, sym, ◌∙◌}
use Prim.Native.Nat.{ℕ, ◌<◌, ◌^◌}
use borrow.Author.Tests.{ltb-true}
use lib.Dec.{ltb}
use lib.ListN.{get_or}
use Rattle.isa.specs.declared.Instr.{Instr}
use Rattle.isa.specs.declared.Instr.TheVariants as instr
use Rattle.isa.specs.declared.Unread.TheVariants.{Unassigned, LeftOut, Other}
use Rattle.std.specs.Prelude.{Ok, Err, Result}
use Rattle.isa.specs.declared.Unread.{Unread}
use Rattle.isa.specs.Widths as format
use Rattle.isa.proofs.Apart.{read-apart, written_apart}
use Rattle.ops.specs.declared.Class.TheVariants as class
use Rattle.ops.specs.Places as place
use Rattle.ops.specs.Table.{has_form}
use Rattle.fields.proofs.Fields.{both_left, both_right, fits-at}
use Rattle.reading.specs.Reading.{read_of}
use Rattle.writing.specs.Writing.{layout_of}
use Rattle.words.specs.Formed.{Formed}
use Rattle.words.specs.Theorems as theorems
use Rattle.words.specs.Theorems.{Answer, instruction, unassigned, left_out, other}
use Rattle.words.proofs.ReadWrite.{Back, back, read-write}
use Rattle.words.proofs.Blocks.{class-is}
use Rattle.words.proofs.WriteRead.{Fit, fit, of, of-index}

answer : (w : ℕ) (r : Result Instr Unread) → Back w r → Answer w r
unfolding Back
answer w (Ok i) b = instruction i refl
answer w (Err Unassigned) b = unassigned (sym b) refl
answer w (Err LeftOut) b = left_out (sym b) refl
answer w (Err Other) b = other (λ e. b (sym e)) refl

pub one_answer : theorems.OneAnswer
one_answer w h = answer w (read_of w) (back w h)

-- the k-th value of an instruction that was written is below the power of its width
at : {i : Instr} {w : ℕ} → Fit i w → (k : ℕ) → get_or (layout_of i).values k 0 < 2 ^ get_or (layout_of i).widths k 0
at {i} f k = fits-at (layout_of i).widths (layout_of i).values f.fitting k

formed : (i : Instr) {w : ℕ} → Fit i w → Formed i
formed (instr.Three k df wd ws wt) f =
    let o = of class.Three k.0 (has_form k.0 df) f.ok in
    (at f 5, at f 4, at f 3, o.0, o.1)
formed (instr.Indexed k df wd ws rt) f =
    let o = of class.Indexed k.0 (has_form k.0 df) f.ok in
    (at f 5, at f 4, at f 3, o.0, o.1)
formed (instr.Imm5U k df wd ws imm) f =
    let o = of class.Imm5U k.0 (has_form k.0 df) f.ok in
    (at f 5, at f 4, at f 3, o.0, o.1)
formed (instr.Imm5S k df wd ws imm) f =
    let o = of class.Imm5S k.0 (has_form k.0 df) f.ok in
    (at f 5, at f 4, at f 3, o.0, o.1)
formed (instr.Ldi df wd imm) f = (at f 4, at f 3, f.ok)
formed (instr.Bit k df wd ws m) f =
    let o = of-index class.Bit k.0 (has_form k.0 df) (ltb m (format.bits df)) f.ok in
    (at f 4, at f 3, ltb-true _ _ o.2, o.0, o.1)
formed (instr.Imm8 k wd ws imm) f = (at f 4, at f 3, at f 2, class-is class.Imm8 k.0 f.ok)
formed (instr.Shf df wd ws imm) f = (at f 4, at f 3, at f 2, f.ok)
formed (instr.Element k df wd ws n) f =
    let o = of-index class.Element k.0 (has_form k.0 df) (ltb n (format.elements df)) f.ok in
    (at f 4, at f 3, ltb-true _ _ o.2, o.0, o.1)
formed (instr.Copy k df rd ws n) f =
    let o = of-index class.Copy k.0 (has_form k.0 df) (ltb n (format.elements df)) f.ok in
    (at f 4, at f 3, ltb-true _ _ o.2, o.0, o.1)
formed (instr.Insve df wd n ws) f =
    let has = both_left (has_form place.insve df) (ltb n (format.elements df)) f.ok in
    (at f 4, ltb-true _ _ (both_right (has_form place.insve df) (ltb n (format.elements df)) f.ok), at f 3, has)
formed (instr.Insert df wd n rs) f =
    let has = both_left (has_form place.insert df) (ltb n (format.elements df)) f.ok in
    (at f 4, ltb-true _ _ (both_right (has_form place.insert df) (ltb n (format.elements df)) f.ok), at f 3, has)
formed (instr.Move wd ws) f = (at f 4, at f 3)
formed (instr.Cfcmsa rd cs) f = (at f 4, at f 3)
formed (instr.Ctcmsa cd rs) f = (at f 4, at f 3)
formed (instr.Vec k wd ws wt) f = (at f 4, at f 3, at f 2, class-is class.Vec k.0 f.ok)
formed (instr.Fill df wd rs) f = (at f 5, at f 4, f.ok)
formed (instr.Count k df wd ws) f =
    let o = of class.Count k.0 (has_form k.0 df) f.ok in
    (at f 5, at f 4, o.0, o.1)
formed (instr.Memory k df wd offset rs) f =
    let o = of class.Memory k.0 (has_form k.0 df) f.ok in
    (at f 3, at f 1, at f 2, o.0, o.1)
formed (instr.Branch k df wt offset) f =
    let o = of class.Branch k.0 (has_form k.0 df) f.ok in
    (at f 3, at f 4, o.0, o.1)
formed (instr.BranchV k wt offset) f = (at f 3, at f 4, class-is class.BranchV k.0 f.ok)
formed (instr.Scaled k rd rs rt sa) f = (at f 3, at f 1, at f 2, at f 5, class-is class.Scaled k.0 f.ok)
formed (instr.Fixed k df wd ws wt) f =
    let o = of class.Fixed k.0 (has_form k.0 df) f.ok in
    (at f 5, at f 4, at f 3, o.0, o.1)

pub write-formed : theorems.WriteFormed
write-formed i w e = formed i (fit i w e)

pub read-formed : theorems.ReadFormed
read-formed w i h e = write-formed i w (read-write w i h e)

pub read-unique : theorems.ReadUnique
read-unique w r s p q = read-apart r s (p.said ∙ sym q.said)

pub write-unique : theorems.WriteUnique
write-unique i r s p q = written_apart r s (p.said ∙ sym q.said)
