-- The text of the code has the table's names: tested once, by computing. Assumes nothing.
use mathlib.Core.Path.{◌≡◌, refl, sym, ap, subst}
use mathlib.Core.Bool.{Bool, true, false, cond}
use mathlib.Core.List.{List, [], ◌∷◌, ◌++◌}
use Prim.Native.Nat.{ℕ, zero, suc, ◌+◌, ◌*◌, ◌/◌, ◌%◌, ◌≤◌, ◌<◌}
use native.Mathlib.Omega.{arith}
use borrow.Author.Tests.{eqb-true, eqb-false, ne_eqb, ltb-true}
use lib.Dec.{eqb, ltb}
use lib.ListN.{length, get_or, take, drop}
use Rattle.fields.specs.Fields.{both}
use Rattle.fields.proofs.Fields.{both_left, both_right}
use Rattle.text.specs.Text.{bytes, padded}
use Rattle.ops.specs.Table.{Row, table, row_at, mnemonic}
use Rattle.ops.specs.Names.{same}
use Rattle.ops.proofs.Find.{among, rule}
use Rattle.ops.proofs.Names.{same→eq}
use Rattle.mnemonics.specs.Lines.{lines, before, line_of}

-- ---- the line of a row

abbrev below64 : List ℕ → Bool
below64 [] = true
below64 (n ∷ ns) = both (ltb n 64) (below64 ns)

past_all : (m : ℕ) (ns : List ℕ) → below64 ns ≡ true → 64 ≤ m → before m ns ≡ length ns
past_all m [] t h = refl
past_all m (n ∷ ns) t h =
    let l = ltb-true n 64 (both_left (ltb n 64) (below64 ns) t) in
    rw (ne_eqb n m (λ e. omega (arith, l, h, e))) (ap suc (past_all m ns (both_right (ltb n 64) (below64 ns) t) h))

-- a row from 64 on has no line
pub no_line : (m : ℕ) → 64 ≤ m → line_of m ≡ 27
unfolding line_of
no_line m h = past_all m lines refl h

-- a row stands in its line, or in none
found : (m : ℕ) (ns : List ℕ) → before m ns < length ns → get_or ns (before m ns) 0 ≡ m
found m [] h = absurd (omega arith)
found m (n ∷ ns) h = go (eqb n m) refl h (λ l. found m ns l)
  where
    go : (b : Bool) → eqb n m ≡ b → cond b 0 (suc (before m ns)) < suc (length ns)
        → (before m ns < length ns → get_or ns (before m ns) 0 ≡ m)
        → get_or (n ∷ ns) (cond b 0 (suc (before m ns))) 0 ≡ m
    go true e h next = eqb-true n m e
    go false e h next = next (omega arith)

missed : (m : ℕ) (ns : List ℕ) → before m ns ≡ length ns → among m ns ≡ false
missed m [] h = refl
missed m (n ∷ ns) h = go (eqb n m) h (λ l. missed m ns l)
  where
    go : (b : Bool) → cond b 0 (suc (before m ns)) ≡ suc (length ns) → (before m ns ≡ length ns → among m ns ≡ false)
        → cond b true (among m ns) ≡ false
    go true h next = absurd (omega (arith, h))
    go false h next = next (omega (arith, h))

within : (m : ℕ) (ns : List ℕ) → before m ns ≤ length ns
within m [] = omega arith
within m (n ∷ ns) = go (eqb n m) (within m ns)
  where
    go : (b : Bool) → before m ns ≤ length ns → cond b 0 (suc (before m ns)) ≤ suc (length ns)
    go true h = omega arith
    go false h = omega arith

pub line_within : (m : ℕ) → line_of m ≤ 27
unfolding line_of
line_within m = within m lines

-- ---- the text

-- of each place of a line: the name's length as a digit, and eight bytes
abbrev cell : List ℕ → List ℕ
cell name = (48 + length name) ∷ padded 8 name

abbrev row : ℕ → List ℕ
row k =
    cell (mnemonic k) ++ cell (mnemonic (k + 1)) ++ cell (mnemonic (k + 2)) ++ cell (mnemonic (k + 3))
    ++ cell (mnemonic (k + 4)) ++ cell (mnemonic (k + 5)) ++ cell (mnemonic (k + 6)) ++ cell (mnemonic (k + 7))

abbrev text_of : List ℕ → List ℕ
text_of [] = []
text_of (m ∷ ms) = row (m * 8) ++ text_of ms

abbrev pub stored : List ℕ
stored = text_of lines

-- the place of a cell, by its number
abbrev place_of : ℕ → ℕ
place_of j = get_or lines (j / 8) 0 * 8 + j % 8

abbrev right : List ℕ → ℕ → List ℕ → Bool
right text j name =
    both (eqb (get_or text (9 * j) 0) (48 + length name)) (same (take (length name) (drop (9 * j + 1) text)) name)

abbrev up_to : (ℕ → Bool) → ℕ → Bool
up_to f zero = true
up_to f (suc n) = both (f n) (up_to f n)

below : (f : ℕ → Bool) (n : ℕ) → up_to f n ≡ true → (j : ℕ) → j < n → f j ≡ true
below f zero t j h = absurd (omega arith)
below f (suc n) t j h = go (eqb n j) refl (λ l. below f n (both_right (f n) (up_to f n) t) j l)
  where
    go : (b : Bool) → eqb n j ≡ b → (j < n → f j ≡ true) → f j ≡ true
    go true e next = subst (λ (m : ℕ). f m ≡ true) (eqb-true n j e) (both_left (f n) (up_to f n) t)
    go false e next = let d = eqb-false n j e in next (omega (arith, d))

-- the letter of a row
abbrev pub letters : List ℕ
letters = bytes "abc|||de|fg||hijklmnop||||||||||q|||r|||s|t|u|||||||vwxyz|{|||||"

pub letter_at : (m : ℕ) → m < 64 → get_or letters m 0 ≡ 97 + line_of m
unfolding line_of
letter_at m h = eqb-true _ _ (below (λ j. eqb (get_or letters j 0) (97 + line_of j)) 64 refl m h)

right-at : (j : ℕ) → j < 216 → right stored j (mnemonic (place_of j)) ≡ true
unfolding row_at
right-at = below (λ j. right stored j (mnemonic (place_of j))) 216 refl

-- ---- a place that stands in a line

module _ (k row : ℕ) (e : row ≡ line_of (k / 8)) where
  module _ (h : row < 27) where
    abbrev cell_of : ℕ
    cell_of = 8 * row + k % 8

    back : place_of cell_of ≡ k
    unfolding line_of
    back =
        let q : cell_of / 8 ≡ row = omega arith in
        let r : cell_of % 8 ≡ k % 8 = omega arith in
        let m : get_or lines row 0 ≡ k / 8 =
        subst (λ (i : ℕ). get_or lines i 0 ≡ k / 8) (sym e) (found (k / 8) lines (subst (λ (i : ℕ). i < 27) e h)) in
        rw (q, r, m) (omega arith)

    right-here : right stored cell_of (mnemonic k) ≡ true
    right-here =
        subst (λ (p : ℕ). right stored cell_of (mnemonic p) ≡ true) back (right-at cell_of (omega arith))

    pub digit : get_or stored (9 * cell_of) 0 ≡ 48 + length (mnemonic k)
    digit = eqb-true _ _ (both_left (eqb (get_or stored (9 * cell_of) 0) (48 + length (mnemonic k))) _ right-here)

    pub part : take (length (mnemonic k)) (drop (9 * cell_of + 1) stored) ≡ mnemonic k
    part =
        same→eq _ _
        (both_right (eqb (get_or stored (9 * cell_of) 0) (48 + length (mnemonic k))) _ right-here)

-- ---- a place that stands in none

abbrev nameless : ℕ → Row → Bool
nameless k r = cond (among (k / 8) lines) true (eqb (length (bytes r.name)) 0)

always : (b : Bool) → cond b true true ≡ true
always true = refl
always false = refl

nameless-at : (k : ℕ) → nameless k (row_at k) ≡ true
unfolding row_at
nameless-at k = rule nameless (λ k. always (among (k / 8) lines)) table refl k

empty : (l : List ℕ) → length l ≡ 0 → [] ≡ l
empty [] e = refl
empty (x ∷ xs) e = absurd (omega (arith, e))

pub no_name : (k row : ℕ) → row ≡ line_of (k / 8) → 27 ≤ row → [] ≡ mnemonic k
unfolding line_of
no_name k row e h =
    let w = within (k / 8) lines in
    let m = missed (k / 8) lines (omega (arith, e, w)) in
    empty (mnemonic k) (eqb-true _ 0 (rw m at (nameless-at k)))
