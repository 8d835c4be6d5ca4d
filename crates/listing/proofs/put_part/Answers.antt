-- `listing::put_part` meets its contract.
use Prim.Native.Nat.{ℕ}
use Rattle.listing.specs.declared.Part.{Part}
use Rattle.reading.proofs.Said.{read_is}
use Rattle.listing.specs.Listing.{read_text, part_text}
use Rattle.text.proofs.Puts.{puts-as, room_as}
use Rattle.text.specs.Text.{Room, Puts}
use mathlib.Core.List.{List}
use mathlib.Core.Path.{◌≡◌, sym, ap}
use Rattle.listing.proofs.put_part.Goals as goal

-- room for a part, and a part put, where the part is known
has : {l : List ℕ} {k : ℕ} {p q : Part} → p ≡ q → Room l k (part_text l k p) → Room l k (part_text l k q)
has {l} {k} e = room_as (ap (part_text l k) e)

did : {l m : List ℕ} {k n : ℕ} {p q : Part} → p ≡ q → Puts l k (part_text l k q) m n → Puts l k (part_text l k p) m n
did {l} {m} {k} e = puts-as (sym (ap (part_text l k) e))

pub put_number-requires : goal.put_number-requires
put_number-requires c = has c.in-Address.is c.requires

pub put_number-requires-in-Word : goal.put_number-requires-in-Word
put_number-requires-in-Word c = has c.in-Word.is c.requires

pub put_read-requires : goal.put_read-requires
put_read-requires c = room_as (ap read_text (sym (read_is c.read_word.ensures))) (has c.in-Text.is c.requires)

pub put_blanks-requires : goal.put_blanks-requires
put_blanks-requires c = has c.in-Blanks.is c.requires

pub returns-in-Address : goal.returns-in-Address
returns-in-Address c = did c.in-Address.is c.put_number.ensures

pub returns-in-Word : goal.returns-in-Word
returns-in-Word c = did c.in-Word.is c.put_number-in-Word.ensures

pub returns-in-Text : goal.returns-in-Text
returns-in-Text c = did c.in-Text.is (puts-as (ap read_text (read_is c.read_word.ensures)) c.put_read.ensures)

pub returns-in-Blanks : goal.returns-in-Blanks
returns-in-Blanks c = did c.in-Blanks.is c.put_blanks.ensures
