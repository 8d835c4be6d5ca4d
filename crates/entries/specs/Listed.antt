-- The read list of a program: entry i is that of what word i reads as; what the list holds past the program stays.
use Rattle.std.specs.Prelude.{ℕ, zero, suc, ◌*◌, ◌^◌, ◌<◌, List, slice_set}
use Rattle.entries.specs.Entry.{entry_of}
use Rattle.memory.specs.Bytes.{number, part}
use Rattle.reading.specs.Reading.{read_of}

abbrev pub word_at : List ℕ → ℕ → ℕ
word_at program i = number (part program (4 * i) 4)

abbrev pub entry_at : List ℕ → ℕ → ℕ
entry_at program i = entry_of (read_of (word_at program i))

-- the first n entries are the program's
unfoldable pub listed : List ℕ → List ℕ → ℕ → List ℕ
listed program list zero = list
listed program list (suc n) = slice_set (listed program list n) n (entry_at program n)

-- each of the first n words is a number of 32 bits, as four bytes are
abbrev pub AreWords : List ℕ → ℕ → Type 0
AreWords program n = (i : ℕ) → i < n → word_at program i < 2 ^ 32
