-- The word of a text: built again from its operation's place, its format's letter and its numbers, a line a class.
-- Assumes nothing.
use mathlib.Core.Path.{◌≡◌, refl, ap, ◌∙◌}
use mathlib.Core.Bool.{Bool, true, false}
use mathlib.Core.List.{List, [], ◌∷◌}
use Prim.Native.Nat.{ℕ, ◌+◌, ◌-◌, ◌*◌, ◌/◌, ◌%◌, ◌≤◌, ◌<◌}
use native.Mathlib.Decide.{dec_lt}
use native.Mathlib.Nat.{mod-eq_of_lt, mul-div_cancel}
use native.Mathlib.Omega.{arith}
use borrow.Author.Tests.{lt-ltb, le-ltb, ne_eqb}
use lib.Dec.{eqb}
use lib.ListN.{length, get_or, drop}
use Rattle.isa.specs.declared.Width.{Width}
use Rattle.isa.specs.declared.Width.TheVariants.{B, H, W, D}
use Rattle.isa.specs.Widths as format
use Rattle.isa.specs.Widths.{width_code, hw_code}
use Rattle.ops.specs.declared.Class.{Class}
use Rattle.ops.specs.declared.Class.TheVariants as class
use Rattle.ops.specs.Table.{class_at}
use Rattle.ops.specs.Names.{place_of_name}
use Rattle.fields.specs.Fields.{pick, word_of}
use Rattle.writing.specs.Writing as writing
use Rattle.listing.specs.Listing.{letter}
use Rattle.shown.specs.declared.Number.{Number}
use Rattle.shown.specs.Shown.{number, signed}
use Rattle.same_text.proofs.Scan.{mark, run}
use Rattle.same_text.proofs.Heads.{head, letter_at}
use Rattle.same_text.proofs.Tokens.{sign_tokens}

-- the format of a letter, and what the manual's tables make of it and an index
abbrev by_letter : ℕ → ℕ → ℕ → ℕ → ℕ → ℕ
by_letter x b h w d = pick (eqb x 66) b (pick (eqb x 72) h (pick (eqb x 87) w d))

unfoldable pub df_of : ℕ → ℕ
df_of x = by_letter x 0 1 2 3

unfoldable pub hw_of : ℕ → ℕ
hw_of x = by_letter x 2 0 1 2

unfoldable pub bit_of : ℕ → ℕ → ℕ
bit_of x m = by_letter x (112 + m) (96 + m) (64 + m) m

unfoldable pub elm_of : ℕ → ℕ → ℕ
elm_of x n = by_letter x n (32 + n) (48 + n) (56 + n)

unfoldable pub bytes_of : ℕ → ℕ
bytes_of x = by_letter x 1 2 4 8

pub df-letter : (df : Width) → df_of (letter df) ≡ width_code df
unfolding df_of
df-letter = elim [ B ↦ refl | H ↦ refl | W ↦ refl | D ↦ refl ]

pub hw-letter : (df : Width) → hw_of (letter df) ≡ hw_code df
unfolding hw_of
hw-letter = elim [ B ↦ refl | H ↦ refl | W ↦ refl | D ↦ refl ]

pub bit-letter : (df : Width) (m : ℕ) → bit_of (letter df) m ≡ writing.bit_code df m
unfolding bit_of
bit-letter B m = refl
bit-letter H m = refl
bit-letter W m = refl
bit-letter D m = refl

pub elm-letter : (df : Width) (n : ℕ) → elm_of (letter df) n ≡ writing.element_code df n
unfolding elm_of
elm-letter B n = refl
elm-letter H n = refl
elm-letter W n = refl
elm-letter D n = refl

pub bytes-letter : (df : Width) → bytes_of (letter df) ≡ format.bytes df
unfolding bytes_of
bytes-letter = elim [ B ↦ refl | H ↦ refl | W ↦ refl | D ↦ refl ]

-- the n-th number; and a field of so many numbers at the front, with its mark where it is below zero, each number so
-- many times as large
abbrev nth : List ℕ → ℕ → ℕ
nth l n = get_or l n 0

unfoldable pub field : ℕ → ℕ → List ℕ → ℕ
field full times l = pick (eqb (nth l 0) mark) (full - nth l 1 / times) (nth l 0 / times)

unfoldable pub behind : List ℕ → ℕ
behind l = pick (eqb (nth l 0) mark) (nth l 2) (nth l 1)

-- a field comes back from its size, and from the mark and its size, also where the size was multiplied
plus-back : (full b x y : ℕ) (rest : List ℕ) → 0 < b → y ≡ x * b → y < 100000 → field full b (y ∷ rest) ≡ x
unfolding field
plus-back full b x y rest some e small = rw (ne_eqb y 100000 (omega arith)) (ap (λ z. z / b) e ∙ mul-div_cancel x some)

minus-back : (full b x y : ℕ) (rest : List ℕ) → 0 < b → x ≤ full → y ≡ (full - x) * b
    → field full b (mark ∷ y ∷ rest) ≡ x
unfolding field
minus-back full b x y rest some within e =
    let q : y / b ≡ full - x = ap (λ z. z / b) e ∙ mul-div_cancel (full - x) some in
    omega arith

signed-plus : (full x : ℕ) → x < full → x < full / 2 → signed full x ≡ number false x
signed-plus full x below h = let m : x % full ≡ x = mod-eq_of_lt below in rw (m, lt-ltb x (full / 2) h)

signed-minus : (full x : ℕ) → x < full → full / 2 ≤ x → signed full x ≡ number true (full - x)
signed-minus full x below h = let m : x % full ≡ x = mod-eq_of_lt below in rw (m, le-ltb x (full / 2) h)

-- so does a signed one
pub field_back : (full b x : ℕ) (n : Number) (y : ℕ) (rest : List ℕ) → 0 < b → x < full → n ≡ signed full x
    → y ≡ n.size * b → y < 100000 → field full b (sign_tokens n.minus (y ∷ rest)) ≡ x
field_back full b x n y rest some below s e small = go (dec_lt x (full / 2))
  where
    go : Dec (x < full / 2) → field full b (sign_tokens n.minus (y ∷ rest)) ≡ x
    go (yes h) =
        let f : n ≡ number false x = s ∙ signed-plus full x below h in
        rw f (plus-back full b x y rest some (e ∙ ap (λ k. k.size * b) f) small)
    go (no h) =
        let f : n ≡ number true (full - x) = s ∙ signed-minus full x below (omega arith) in
        rw f (minus-back full b x y rest some (omega arith) (e ∙ ap (λ k. k.size * b) f))

-- and what stands behind it
pub behind-back : (m : Bool) (y g : ℕ) (rest : List ℕ) → y < 100000 → behind (sign_tokens m (y ∷ g ∷ rest)) ≡ g
unfolding behind
behind-back true y g rest h = refl
behind-back false y g rest h = rw (ne_eqb y 100000 (omega arith))

-- the words of several classes: I5 and 3R, ELM, 2R, and the branches
abbrev five : ℕ → ℕ → ℕ → List ℕ → ℕ
five k x t l = word_of writing.i5 (30 ∷ k % 8 ∷ df_of x ∷ t ∷ nth l 1 ∷ nth l 0 ∷ k / 8 ∷ [])

abbrev elm : ℕ → ℕ → ℕ → List ℕ → ℕ
elm k index s l = word_of writing.elm (30 ∷ k % 16 ∷ index ∷ s ∷ nth l 0 ∷ 25 ∷ 0 ∷ [])

abbrev two : ℕ → ℕ → List ℕ → ℕ
two k x l = word_of writing.two (30 ∷ 24 ∷ k % 8 ∷ df_of x ∷ nth l 1 ∷ nth l 0 ∷ 30 ∷ [])

abbrev branch : ℕ → ℕ → List ℕ → ℕ
branch k df l = word_of writing.branch (17 ∷ k % 8 ∷ df ∷ nth l 0 ∷ field 65536 1 (drop 1 l) ∷ 0 ∷ 0 ∷ [])

abbrev pub rebuilt : Class → ℕ → ℕ → List ℕ → ℕ
rebuilt class.Reserved k x l = 0
rebuilt class.Three k x l = five k x (nth l 2) l
rebuilt class.Indexed k x l = five k x (nth l 2) l
rebuilt class.Imm5U k x l = five k x (nth l 2) l
rebuilt class.Imm5S k x l = five k x (field 32 1 (drop 2 l)) l
rebuilt class.Ldi k x l = word_of writing.i10 (30 ∷ 6 ∷ df_of x ∷ field 1024 1 (drop 1 l) ∷ nth l 0 ∷ 7 ∷ 0 ∷ [])
rebuilt class.Bit k x l =
    word_of writing.bit (30 ∷ k % 8 ∷ bit_of x (nth l 2) ∷ nth l 1 ∷ nth l 0 ∷ k / 8 ∷ 0 ∷ [])
rebuilt class.Imm8 k x l = word_of writing.i8 (30 ∷ k % 8 ∷ nth l 2 ∷ nth l 1 ∷ nth l 0 ∷ k / 8 ∷ 0 ∷ [])
rebuilt class.Shf k x l = word_of writing.i8 (30 ∷ df_of x ∷ nth l 2 ∷ nth l 1 ∷ nth l 0 ∷ 2 ∷ 0 ∷ [])
rebuilt class.Element k x l = elm k (elm_of x (nth l 2)) (nth l 1) l
rebuilt class.Insve k x l = elm k (elm_of x (nth l 1)) (nth l 2) l
rebuilt class.Copy k x l = elm k (elm_of x (nth l 2)) (nth l 1) l
rebuilt class.Insert k x l = elm k (elm_of x (nth l 1)) (nth l 2) l
rebuilt class.Move k x l = elm k 62 (nth l 1) l
rebuilt class.Cfcmsa k x l = elm k 62 (nth l 1) l
rebuilt class.Ctcmsa k x l = elm k 62 (nth l 1) l
rebuilt class.Vec k x l = word_of writing.vec (30 ∷ k % 32 ∷ nth l 2 ∷ nth l 1 ∷ nth l 0 ∷ 30 ∷ 0 ∷ [])
rebuilt class.Fill k x l = two k x l
rebuilt class.Count k x l = two k x l
rebuilt class.Memory k x l =
    word_of writing.mi10
    (30 ∷ field 1024 (bytes_of x) (drop 1 l) ∷ behind (drop 1 l) ∷ nth l 0 ∷ k / 32 ∷ df_of x ∷ 0 ∷ [])
rebuilt class.Branch k x l = branch k (df_of x) l
rebuilt class.BranchV k x l = branch k 3 l
rebuilt class.Scaled k x l =
    word_of writing.special (0 ∷ nth l 1 ∷ nth l 2 ∷ nth l 0 ∷ 0 ∷ (nth l 3 - 1) ∷ k % 64 ∷ [])
rebuilt class.LeftOut k x l = 0
rebuilt class.Fixed k x l =
    word_of writing.float (30 ∷ k % 16 ∷ hw_of x ∷ nth l 2 ∷ nth l 1 ∷ nth l 0 ∷ 28 ∷ [])

-- by the place of the mnemonic before a letter, 86 being V
abbrev pub place_before : List ℕ → ℕ → ℕ
place_before name x = place_of_name name (eqb x 86)

abbrev pub by_place : ℕ → ℕ → List ℕ → ℕ
by_place k x l = rebuilt (class_at k) k x l

unfoldable pub word_of_text : List ℕ → ℕ
word_of_text t =
    let x = letter_at (length (head t)) t in
    by_place (place_before (head t) x) x (run 0 false t)
