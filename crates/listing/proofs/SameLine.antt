-- A line says its address and its word, and what writing one promises leaves one answer and one line. Assumes nothing.
use mathlib.Core.Path.{◌≡◌, refl, sym, ◌∙◌}
use mathlib.Core.List.{List, ◌++◌}
use Prim.Native.Nat.{ℕ, ◌<◌}
use native.Mathlib.Omega.{arith}
use lib.ListN.{length, length-append}
use Rattle.isa.specs.Numbers.{Said, number, values}
use Rattle.isa.proofs.Apart.{apart}
use Rattle.text.specs.Text.{bytes, Puts}
use Rattle.text.specs.Numerals.{hex}
use Rattle.text.proofs.Numerals.{hex-length}
use Rattle.text.proofs.Same.{parts, hex-same}
use Rattle.std.specs.Prelude.{Option, Some, None}
use Rattle.listing.specs.Listing.{text_of, line_of, line_said, Lists}
use Rattle.listing.proofs.Lines.{line-text}

address-long : (a : ℕ) → length (hex a ++ bytes ": ") ≡ 10
address-long a = simp length-append (omega (arith, hex-length a))

word-long : (a w : ℕ) → length (hex a ++ bytes ": " ++ hex w) ≡ 18
word-long a w = simp length-append (omega (arith, hex-length a, hex-length w))

blank-long : (a w : ℕ) → length (hex a ++ bytes ": " ++ hex w ++ bytes " ") ≡ 19
blank-long a w = simp length-append (omega (arith, hex-length a, hex-length w))

-- two lines that are equal are of the same address, the same word and the same text
pub same_line : (a w a' w' : ℕ) → a < 4294967296 → w < 4294967296 → a' < 4294967296 → w' < 4294967296
    → line_of a w ≡ line_of a' w' → (a ≡ a') × (w ≡ w') × (text_of w ≡ text_of w')
same_line a w a' w' ha hw ha' hw' e =
    let whole = parts 19 (blank-long a w) (blank-long a' w') (line-text a w ∙ e ∙ sym (line-text a' w')) in
    let front = parts 18 (word-long a w) (word-long a' w') whole.0 in
    let both = parts 10 (address-long a) (address-long a') front.0 in
    let address = parts 8 (hex-length a) (hex-length a') both.0 in
    (hex-same a a' ha ha' address.0, hex-same w w' hw hw' both.1, whole.1)

abbrev line_from : Said ℕ → Option ℕ
line_from (number n) = None
line_from (values n) = Some n

line-back : (r : Option ℕ) → line_from (line_said r) ≡ r
line-back None = refl
line-back (Some n) = refl

line-apart : (r s : Option ℕ) → line_said r ≡ line_said s → r ≡ s
line-apart = apart line_said line_from line-back

pub line-unique : (before : List ℕ) (a w : ℕ) (r s : Option ℕ) (after after' : List ℕ) → Lists before a w r after → Lists before a w s after' → (r ≡ s) × (after ≡ after')
line-unique before a w r s after after' p q = (line-apart r s (p.said ∙ sym q.said), p.line ∙ sym q.line)

-- the same of a text that is put into a line
pub put-unique : (before : List ℕ) (at : ℕ) (text after after' : List ℕ) (n n' : ℕ) → Puts before at text after n → Puts before at text after' n' → (n ≡ n') × (after ≡ after')
put-unique before at text after after' n n' p q = (p.place ∙ sym q.place, p.line ∙ sym q.line)
