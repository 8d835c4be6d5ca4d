-- The mnemonic and the letter of the format, read off a text. Assumes nothing.
use mathlib.Core.Path.{◌≡◌, refl, ap, ◌∙◌}
use mathlib.Core.Bool.{Bool, true, false}
use mathlib.Core.List.{List, [], ◌∷◌, ◌++◌, append_assoc}
use Prim.Native.Nat.{ℕ, ◌+◌, ◌≤◌}
use native.Mathlib.Omega.{arith}
use borrow.Author.Tests.{leb-true, le-ltb, ne_eqb}
use lib.Dec.{eqb, leb}
use lib.ListN.{length, get_or}
use lib.Seq.{get_or-append-add}
use Rattle.isa.specs.declared.Width.TheVariants.{B, H, W, D}
use Rattle.fields.specs.Fields.{pick, both}
use Rattle.fields.proofs.Fields.{both_left, both_right}
use Rattle.text.specs.Text.{bytes}
use Rattle.ops.specs.Table.{table, row_at, mnemonic}
use Rattle.ops.proofs.Find.{rule}
use Rattle.shown.specs.declared.Form.{Form}
use Rattle.shown.specs.declared.Form.TheVariants.{Bare, Each, Whole}
use Rattle.shown.specs.declared.Shown.{Shown}
use Rattle.operands.specs.Operands.{operands_text}
use Rattle.listing.specs.Listing.{letter, form_text, shown_text}
use Rattle.same_text.proofs.Scan.{run, is_digit}
use Rattle.same_text.proofs.Tokens.{Short, tokens, skip, operands-run}

-- every letter of a mnemonic is A or later: no digit, minus, dot or blank
unfoldable high : List ℕ → Bool
high [] = true
high (c ∷ cs) = both (leb 65 c) (high cs)

name-high : (k : ℕ) → high (mnemonic k) ≡ true
unfolding high row_at
name-high k = rule (λ k r. high (bytes r.name)) (λ k. refl) table refl k

high-run : (xs rest : List ℕ) → high xs ≡ true → run 0 false (xs ++ rest) ≡ run 0 false rest
unfolding run high
high-run [] rest h = refl
high-run (c ∷ cs) rest h =
    let l : 65 ≤ c = leb-true 65 c (both_left (leb 65 c) (high cs) h) in
    let d : is_digit c ≡ false = last (leb 48 c) (le-ltb c 58 (omega arith)) in
    rw (d, ne_eqb c 45 (omega arith)) (high-run cs rest (both_right (leb 65 c) (high cs) h))
  where
    last : (b : Bool) {x : Bool} → x ≡ false → both b x ≡ false
    last true e = e
    last false e = refl

-- up to a dot or a blank
unfoldable pub head : List ℕ → List ℕ
head [] = []
head (c ∷ cs) = pick (eqb c 46) [] (pick (eqb c 32) [] (c ∷ head cs))

head-high : (xs : List ℕ) (c : ℕ) (rest : List ℕ) → high xs ≡ true → head (c ∷ rest) ≡ [] → head (xs ++ (c ∷ rest)) ≡ xs
unfolding head high
head-high [] c rest h e = e
head-high (x ∷ xs) c rest h e =
    let l : 65 ≤ x = leb-true 65 x (both_left (leb 65 x) (high xs) h) in
    rw (ne_eqb x 46 (omega arith), ne_eqb x 32 (omega arith))
    (ap (λ t. x ∷ t) (head-high xs c rest (both_right (leb 65 x) (high xs) h) e))

-- the letter at a place behind a dot, 0 where there is no dot
unfoldable pub letter_at : ℕ → List ℕ → ℕ
letter_at n t = pick (eqb (get_or t (n + 0) 0) 46) (get_or t (n + 1) 0) 0

abbrev pub form_letter : Form → ℕ
form_letter Bare = 0
form_letter (Each df) = letter df
form_letter Whole = 86

-- what stands behind the mnemonic of a text
abbrev tail : Form → List ℕ → List ℕ
tail Bare ops = 32 ∷ ops
tail (Each df) ops = 46 ∷ letter df ∷ 32 ∷ ops
tail Whole ops = 46 ∷ 86 ∷ 32 ∷ ops

tail-text : (xs : List ℕ) (f : Form) (ops : List ℕ) → xs ++ form_text f ++ bytes " " ++ ops ≡ xs ++ tail f ops
tail-text xs Bare ops = simp append_assoc
tail-text xs (Each df) ops = simp append_assoc
tail-text xs Whole ops = simp append_assoc

tail-head : (xs : List ℕ) (f : Form) (ops : List ℕ) → high xs ≡ true → head (xs ++ tail f ops) ≡ xs
unfolding head
tail-head xs Bare ops h = head-high xs 32 ops h refl
tail-head xs (Each df) ops h = head-high xs 46 (letter df ∷ 32 ∷ ops) h refl
tail-head xs Whole ops h = head-high xs 46 (86 ∷ 32 ∷ ops) h refl

tail-letter : (xs : List ℕ) (f : Form) (ops : List ℕ) → letter_at (length xs) (xs ++ tail f ops) ≡ form_letter f
unfolding letter_at
tail-letter xs Bare ops = rw (get_or-append-add xs (32 ∷ ops) 0 0)
tail-letter xs (Each df) ops =
    let t : List ℕ = 46 ∷ letter df ∷ 32 ∷ ops in
    rw (get_or-append-add xs t 0 0, get_or-append-add xs t 1 0)
tail-letter xs Whole ops = rw (get_or-append-add xs (46 ∷ 86 ∷ 32 ∷ ops) 0 0, get_or-append-add xs (46 ∷ 86 ∷ 32 ∷ ops) 1 0)

tail-run : (f : Form) (ops : List ℕ) → run 0 false (tail f ops) ≡ run 0 false ops
tail-run Bare ops = skip 32 ops refl refl
tail-run (Each B) ops = skip 46 _ refl refl ∙ skip 66 _ refl refl ∙ skip 32 ops refl refl
tail-run (Each H) ops = skip 46 _ refl refl ∙ skip 72 _ refl refl ∙ skip 32 ops refl refl
tail-run (Each W) ops = skip 46 _ refl refl ∙ skip 87 _ refl refl ∙ skip 32 ops refl refl
tail-run (Each D) ops = skip 46 _ refl refl ∙ skip 68 _ refl refl ∙ skip 32 ops refl refl
tail-run Whole ops = skip 46 _ refl refl ∙ skip 86 _ refl refl ∙ skip 32 ops refl refl

-- the parts of a text
module _ (s : Shown) where
  abbrev ops : List ℕ
  ops = operands_text s.a s.b s.c s.d

  pub head_of : head (shown_text s) ≡ mnemonic s.name
  head_of =
      ap head (tail-text (mnemonic s.name) s.form ops)
      ∙ tail-head (mnemonic s.name) s.form ops (name-high s.name)

  pub letter-of : letter_at (length (head (shown_text s))) (shown_text s) ≡ form_letter s.form
  letter-of =
      ap (λ x. letter_at (length x) (shown_text s)) head_of
      ∙ ap (letter_at (length (mnemonic s.name))) (tail-text (mnemonic s.name) s.form ops)
      ∙ tail-letter (mnemonic s.name) s.form ops

  pub tokens-of : Short s.a → Short s.b → Short s.c → Short s.d
      → run 0 false (shown_text s) ≡ tokens s.a (tokens s.b (tokens s.c (tokens s.d [])))
  tokens-of sa sb sc sd =
      ap (run 0 false) (tail-text (mnemonic s.name) s.form ops)
      ∙ high-run (mnemonic s.name) (tail s.form ops) (name-high s.name)
      ∙ tail-run s.form ops
      ∙ operands-run s.a s.b s.c s.d sa sb sc sd
