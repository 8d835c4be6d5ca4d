-- The line of a word, document 01's "The listing", as a list of bytes.
use Rattle.std.specs.Prelude.{◌≡◌, List, [], ◌∷◌, ◌++◌, ℕ, ◌-◌, eqb, length, replicate, Result, Option, Ok, Err, Some, None}
use Rattle.isa.specs.declared.Width.{Width}
use Rattle.isa.specs.declared.Width.TheVariants.{B, H, W, D}
use Rattle.isa.specs.declared.Instr.{Instr}
use Rattle.isa.specs.declared.Unread.{Unread}
use Rattle.shown.specs.declared.Form.{Form}
use Rattle.shown.specs.declared.Form.TheVariants.{Bare, Each, Whole}
use Rattle.shown.specs.declared.Shown.{Shown}
use Rattle.listing.specs.declared.Part.{Part}
use Rattle.listing.specs.declared.Part.TheVariants.{Address, Word, Text, Blanks}
use Rattle.fields.specs.Fields.{pick}
use Rattle.isa.specs.Numbers.{Said, number, values, unread_number}
use Rattle.reading.specs.Reading.{read_of}
use Rattle.text.specs.Text.{bytes, padded}
use Rattle.text.specs.Numerals.{decimal, hex}
use Rattle.operands.specs.Operands.{operands_text}
use Rattle.ops.specs.Table.{mnemonic}
use Rattle.shown.specs.Shown.{shown_of}

-- ---- an instruction

abbrev pub letter : Width → ℕ
letter B = 66
letter H = 72
letter W = 87
letter D = 68

abbrev pub form_text : Form → List ℕ
form_text Bare = []
form_text (Each df) = bytes "." ++ letter df ∷ []
form_text Whole = bytes ".V"

abbrev pub shown_text : Shown → List ℕ
shown_text s = mnemonic s.name ++ form_text s.form ++ bytes " " ++ operands_text s.a s.b s.c s.d

-- ---- a word

abbrev pub read_text : Result Instr Unread → List ℕ
read_text (Err u) = bytes "; " ++ decimal (unread_number u)
read_text (Ok i) = shown_text (shown_of i)

abbrev pub text_of : ℕ → List ℕ
text_of w = read_text (read_of w)

unfoldable pub line_of : ℕ → ℕ → List ℕ
line_of address w = hex address ++ bytes ": " ++ hex w ++ bytes " " ++ text_of w

-- ---- a line in its parts

-- what a part puts from a place of a line on; blanks go up to the line's end
abbrev pub part_text : List ℕ → ℕ → Part → List ℕ
part_text line at (Address a) = hex a ++ bytes ": "
part_text line at (Word w) = hex w ++ bytes " "
part_text line at (Text w) = text_of w
part_text line at Blanks = replicate (length line - at) 32

-- ---- what writing a line promises

abbrev pub line_said : Option ℕ → Said ℕ
line_said None = number 7
line_said (Some n) = values n

-- a line of 64 bytes takes the text and then blanks; any other is refused, and stays as it is
abbrev pub line_answer : List ℕ → ℕ → ℕ → Said ℕ
line_answer line address w = pick (eqb (length line) 64) (values (length (line_of address w))) (number 7)

abbrev pub line_after : List ℕ → ℕ → ℕ → List ℕ
line_after line address w = pick (eqb (length line) 64) (padded 64 (line_of address w)) line

pub record Lists (before : List ℕ) (address w : ℕ) (answer : Option ℕ) (after : List ℕ) : Type 0 where
  pub said : line_said answer ≡ line_answer before address w
  pub line : after ≡ line_after before address w
