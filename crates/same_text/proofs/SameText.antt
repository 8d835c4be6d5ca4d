-- The word comes back from the text, class by class; so equal texts are of one word. Assumes nothing.
use mathlib.Core.Path.{◌≡◌, refl, sym, ap, ap₂, ◌∙◌}
use mathlib.Core.Bool.{Bool, true, false}
use mathlib.Core.List.{List, [], ◌∷◌}
use Prim.Native.Nat.{ℕ, ◌+◌, ◌-◌, ◌*◌, ◌/◌, ◌%◌, ◌^◌, ◌≤◌, ◌<◌}
use native.Mathlib.Nat.{mod-lt, mul-le-mul}
use native.Mathlib.Omega.{arith}
use lib.Dec.{eqb, ltb}
use lib.ListN.{length}
use Rattle.isa.specs.declared.Instr.{Instr}
use Rattle.isa.specs.declared.Instr.TheVariants as instr
use Rattle.std.specs.Prelude.{Ok, Some, None}
use Rattle.isa.specs.declared.Width.{Width}
use Rattle.isa.specs.declared.Width.TheVariants.{B, H, W, D}
use Rattle.isa.specs.Widths as format
use Rattle.fields.specs.Fields.{pick, fits, word_of}
use Rattle.ops.specs.declared.Class.{Class}
use Rattle.ops.specs.declared.Class.TheVariants as class
use Rattle.ops.specs.Table.{row_at, class_at, mnemonic}
use Rattle.ops.specs.Names.{place_of_name}
use Rattle.ops.proofs.Names.{unnamed, place-back, whole_class, whole-class}
use Rattle.reading.specs.Reading.{read_of}
use Rattle.writing.specs.Writing.{layout_of, write_of}
use Rattle.words.specs.Formed.{Formed}
use Rattle.words.proofs.Answers.{read-formed}
use Rattle.words.proofs.ReadWrite.{read-write}
use Rattle.shown.specs.declared.Shown.{Shown}
use Rattle.shown.specs.Shown.{number, shown_of, signed}
use Rattle.listing.specs.Listing.{letter, shown_text, text_of}
use Rattle.same_text.specs.SameText as statement
use Rattle.same_text.proofs.Scan.{run}
use Rattle.same_text.proofs.Tokens.{Short, tokens, sign_tokens}
use Rattle.same_text.proofs.Heads.{head, letter_at, form_letter, head_of, letter-of, tokens-of}
use Rattle.same_text.proofs.Rebuild.{
  rebuilt,
  place_before,
  by_place,
  word_of_text,
  field,
  behind,
  df-letter,
  hw-letter,
  bit-letter,
  elm-letter,
  bytes-letter,
  field_back,
  behind-back,
}

-- the numbers of an instruction's text are short
pub record Shorts (s : Shown) : Type 0 where
  a : Short s.a
  b : Short s.b
  c : Short s.c
  d : Short s.d

-- an operation of a class is found by its name and the letter behind it
pub record Found (s : Shown) (c : Class) : Type 0 where
  stands : class_at s.name ≡ c
  named : unnamed c ≡ false
  letter : eqb (form_letter s.form) 86 ≡ whole_class c

found-place : (s : Shown) (c : Class) → Found s c → place_before (mnemonic s.name) (form_letter s.form) ≡ s.name
found-place s c f =
    let n : unnamed (class_at s.name) ≡ false = ap unnamed f.stands ∙ f.named in
    let w = whole-class s.name ∙ ap whole_class f.stands ∙ sym f.letter in
    ap (place_of_name (mnemonic s.name)) (sym w) ∙ place-back s.name n

abbrev tokens_in : Shown → List ℕ
tokens_in s = tokens s.a (tokens s.b (tokens s.c (tokens s.d [])))

-- the parts of a text, put together
text-word : (s : Shown) (c : Class) → Found s c → Shorts s
    → word_of_text (shown_text s) ≡ rebuilt c s.name (form_letter s.form) (tokens_in s)
unfolding word_of_text
text-word s c f h =
    let t = shown_text s in
    let x = letter_at (length (head t)) t in
    ap (λ k. by_place k x (run 0 false t)) (ap₂ place_before (head_of s) (letter-of s) ∙ found-place s c f)
    ∙ ap₂ (λ x l. by_place s.name x l) (letter-of s) (tokens-of s h.a h.b h.c h.d)
    ∙ ap (λ c. rebuilt c s.name (form_letter s.form) (tokens_in s)) f.stands

abbrev word_is : Instr → ℕ
word_is i = word_of (layout_of i).widths (layout_of i).values

abbrev Back : Instr → Type 0
Back i = word_of_text (shown_text (shown_of i)) ≡ word_is i

signed-short : (full x : ℕ) → 0 < full → (signed full x).size ≤ full
signed-short full x some = go (ltb (x % full) (full / 2))
  where
    go : (b : Bool) → (pick b (number false (x % full)) (number true (full - x % full))).size ≤ full
    go true = omega (arith, mod-lt x some)
    go false = omega arith

-- a signed field comes back
signed-size : (full x : ℕ) → 0 < full → full < 100000 → (signed full x).size < 100000
signed-size full x some few = omega (arith, signed-short full x some)

signed_back : (full x : ℕ) → x < full → full < 100000
    → field full 1 (sign_tokens (signed full x).minus ((signed full x).size ∷ [])) ≡ x
signed_back full x h few =
    field_back full 1 x (signed full x) (signed full x).size [] (omega arith) h refl (omega arith)
    (signed-size full x (omega arith) few)

not-v : (df : Width) → eqb (letter df) 86 ≡ false
not-v = elim [ B ↦ refl | H ↦ refl | W ↦ refl | D ↦ refl ]

-- registers and indices are short
below : {n : ℕ} → n < 32 → n < 100000
below h = omega arith

bits-few : (df : Width) → format.bits df ≤ 64
bits-few = elim [ B ↦ omega arith | H ↦ omega arith | W ↦ omega arith | D ↦ omega arith ]

elements-few : (df : Width) → format.elements df ≤ 16
elements-few = elim [ B ↦ omega arith | H ↦ omega arith | W ↦ omega arith | D ↦ omega arith ]

index : (df : Width) {n : ℕ} → n < format.elements df → n < 100000
index df h = omega (arith, elements-few df)

bytes-few : (df : Width) → (0 < format.bytes df) × (format.bytes df ≤ 8)
bytes-few B = (omega arith, omega arith)
bytes-few H = (omega arith, omega arith)
bytes-few W = (omega arith, omega arith)
bytes-few D = (omega arith, omega arith)

offset-size : (df : Width) (offset : ℕ) → (signed 1024 offset).size * format.bytes df < 100000
offset-size df offset =
    let s = signed-short 1024 offset (omega arith) in
    let m = mul-le-mul s (bytes-few df).1 in
    omega arith

offset-back : (df : Width) (offset g : ℕ) → offset < 1024
    → field 1024 (format.bytes df)
    (sign_tokens (signed 1024 offset).minus ((signed 1024 offset).size * format.bytes df ∷ g ∷ []))
    ≡ offset
offset-back df offset g h =
    let n = signed 1024 offset in
    field_back 1024 (format.bytes df) offset n (n.size * format.bytes df) (g ∷ []) (bytes-few df).0 h refl refl
    (offset-size df offset)

base_back : (df : Width) (offset g : ℕ)
    → behind (sign_tokens (signed 1024 offset).minus ((signed 1024 offset).size * format.bytes df ∷ g ∷ [])) ≡ g
base_back df offset g =
    let n = signed 1024 offset in
    behind-back n.minus (n.size * format.bytes df) g [] (offset-size df offset)

-- an operation with a format's letter, and one without a letter or with V
each : (s : Shown) (c : Class) (df : Width) → form_letter s.form ≡ letter df → whole_class c ≡ false
    → unnamed c ≡ false → class_at s.name ≡ c → Found s c
each s c df e w n h = record { stands = h; named = n; letter = ap (λ x. eqb x 86) e ∙ not-v df ∙ sym w }

word_back : (i : Instr) → Formed i → Back i
unfolding row_at
word_back (instr.Three k df wd ws wt) f =
    text-word (shown_of (instr.Three k df wd ws wt)) class.Three (each _ _ df refl refl refl f.3)
    (record { a = below f.0; b = below f.1; c = below f.2; d = tt })
    ∙ rw (df-letter df)
word_back (instr.Indexed k df wd ws rt) f =
    text-word (shown_of (instr.Indexed k df wd ws rt)) class.Indexed (each _ _ df refl refl refl f.3)
    (record { a = below f.0; b = (below f.1, below f.2); c = tt; d = tt })
    ∙ rw (df-letter df)
word_back (instr.Imm5U k df wd ws imm) f =
    text-word (shown_of (instr.Imm5U k df wd ws imm)) class.Imm5U (each _ _ df refl refl refl f.3)
    (record { a = below f.0; b = below f.1; c = below f.2; d = tt })
    ∙ rw (df-letter df)
word_back (instr.Imm5S k df wd ws imm) f =
    text-word (shown_of (instr.Imm5S k df wd ws imm)) class.Imm5S (each _ _ df refl refl refl f.3)
    (record { a = below f.0; b = below f.1; c = signed-size 32 imm (omega arith) (omega arith); d = tt })
    ∙ rw (df-letter df, signed_back 32 imm f.2 (omega arith))
word_back (instr.Ldi df wd imm) f =
    text-word (shown_of (instr.Ldi df wd imm)) class.Ldi (each _ _ df refl refl refl refl)
    (record { a = below f.0; b = signed-size 1024 imm (omega arith) (omega arith); c = tt; d = tt })
    ∙ rw (df-letter df, signed_back 1024 imm f.1 (omega arith))
word_back (instr.Bit k df wd ws m) f =
    text-word (shown_of (instr.Bit k df wd ws m)) class.Bit (each _ _ df refl refl refl f.3)
    (record { a = below f.0; b = below f.1; c = omega (arith, f.2, bits-few df); d = tt })
    ∙ rw (bit-letter df m)
word_back (instr.Imm8 k wd ws imm) f =
    text-word (shown_of (instr.Imm8 k wd ws imm)) class.Imm8 (each _ _ B refl refl refl f.3)
    (record { a = below f.0; b = below f.1; c = omega (arith, f.2); d = tt })
word_back (instr.Shf df wd ws imm) f =
    text-word (shown_of (instr.Shf df wd ws imm)) class.Shf (each _ _ df refl refl refl refl)
    (record { a = below f.0; b = below f.1; c = omega (arith, f.2); d = tt })
    ∙ rw (df-letter df)
word_back (instr.Element k df wd ws n) f =
    text-word (shown_of (instr.Element k df wd ws n)) class.Element (each _ _ df refl refl refl f.3)
    (record { a = below f.0; b = (below f.1, index df f.2); c = tt; d = tt })
    ∙ rw (elm-letter df n)
word_back (instr.Insve df wd n ws) f =
    text-word (shown_of (instr.Insve df wd n ws)) class.Insve (each _ _ df refl refl refl refl)
    (record { a = (below f.0, index df f.1); b = (below f.2, omega arith); c = tt; d = tt })
    ∙ rw (elm-letter df n)
word_back (instr.Copy k df rd ws n) f =
    text-word (shown_of (instr.Copy k df rd ws n)) class.Copy (each _ _ df refl refl refl f.3)
    (record { a = below f.0; b = (below f.1, index df f.2); c = tt; d = tt })
    ∙ rw (elm-letter df n)
word_back (instr.Insert df wd n rs) f =
    text-word (shown_of (instr.Insert df wd n rs)) class.Insert (each _ _ df refl refl refl refl)
    (record { a = (below f.0, index df f.1); b = below f.2; c = tt; d = tt })
    ∙ rw (elm-letter df n)
word_back (instr.Move wd ws) f =
    text-word (shown_of (instr.Move wd ws)) class.Move (record { stands = refl; named = refl; letter = refl })
    (record { a = below f.0; b = below f.1; c = tt; d = tt })
word_back (instr.Cfcmsa rd cs) f =
    text-word (shown_of (instr.Cfcmsa rd cs)) class.Cfcmsa (record { stands = refl; named = refl; letter = refl })
    (record { a = below f.0; b = below f.1; c = tt; d = tt })
word_back (instr.Ctcmsa cd rs) f =
    text-word (shown_of (instr.Ctcmsa cd rs)) class.Ctcmsa (record { stands = refl; named = refl; letter = refl })
    (record { a = below f.0; b = below f.1; c = tt; d = tt })
word_back (instr.Vec k wd ws wt) f =
    text-word (shown_of (instr.Vec k wd ws wt)) class.Vec (record { stands = f.3; named = refl; letter = refl })
    (record { a = below f.0; b = below f.1; c = below f.2; d = tt })
word_back (instr.Fill df wd rs) f =
    text-word (shown_of (instr.Fill df wd rs)) class.Fill (each _ _ df refl refl refl refl)
    (record { a = below f.0; b = below f.1; c = tt; d = tt })
    ∙ rw (df-letter df)
word_back (instr.Count k df wd ws) f =
    text-word (shown_of (instr.Count k df wd ws)) class.Count (each _ _ df refl refl refl f.2)
    (record { a = below f.0; b = below f.1; c = tt; d = tt })
    ∙ rw (df-letter df)
word_back (instr.Memory k df wd offset rs) f =
    text-word (shown_of (instr.Memory k df wd offset rs)) class.Memory (each _ _ df refl refl refl f.3)
    (record { a = below f.0; b = (offset-size df offset, below f.2); c = tt; d = tt })
    ∙ rw (bytes-letter df, df-letter df, offset-back df offset rs.0 f.1, base_back df offset rs.0)
word_back (instr.Branch k df wt offset) f =
    text-word (shown_of (instr.Branch k df wt offset)) class.Branch (each _ _ df refl refl refl f.2)
    (record { a = below f.0; b = signed-size 65536 offset (omega arith) (omega arith); c = tt; d = tt })
    ∙ rw (df-letter df, signed_back 65536 offset f.1 (omega arith))
word_back (instr.BranchV k wt offset) f =
    text-word (shown_of (instr.BranchV k wt offset)) class.BranchV
    (record { stands = f.2; named = refl; letter = refl })
    (record { a = below f.0; b = signed-size 65536 offset (omega arith) (omega arith); c = tt; d = tt })
    ∙ rw (signed_back 65536 offset f.1 (omega arith))
word_back (instr.Scaled k rd rs rt sa) f =
    text-word (shown_of (instr.Scaled k rd rs rt sa)) class.Scaled
    (record { stands = f.4; named = refl; letter = refl })
    (record { a = below f.0; b = below f.1; c = below f.2; d = omega (arith, f.3) })
    ∙ rw (let less : sa + 1 - 1 ≡ sa = omega arith in less)
word_back (instr.Fixed k df wd ws wt) f =
    text-word (shown_of (instr.Fixed k df wd ws wt)) class.Fixed (each _ _ df refl refl refl f.3)
    (record { a = below f.0; b = below f.1; c = below f.2; d = tt })
    ∙ rw (hw-letter df)

-- the word of an instruction that was written
written-word : (ok fit : Bool) (x w : ℕ) → pick ok (pick fit (Some x) None) None ≡ Some w → x ≡ w
written-word true true x w e = cc
written-word true false x w e = let z : ◌≡◌ {A = ℕ} 0 1 = cc in absurd (omega arith)
written-word false fit x w e = let z : ◌≡◌ {A = ℕ} 0 1 = cc in absurd (omega arith)

text-back : (w : ℕ) (i : Instr) → w < 2 ^ 32 → read_of w ≡ Ok i → word_of_text (text_of w) ≡ w
unfolding write_of
text-back w i h r =
    let l = layout_of i in
    rw r (word_back i (read-formed w i h r))
    ∙ written-word l.ok (fits l.widths l.values) (word_of l.widths l.values) w (read-write w i h r)

pub same_text : statement.SameText
same_text w w' i i' h h' r r' e = sym (text-back w i h r) ∙ ap word_of_text e ∙ text-back w' i' h' r'
