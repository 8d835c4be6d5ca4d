-- What is proved of reading and writing, for every word and every instruction.
use Rattle.std.specs.Prelude.{◌≡◌, ℕ, ◌<◌, ◌^◌, Ok, Result, Option, Some}
use Rattle.isa.specs.declared.Instr.{Instr}
use Rattle.isa.specs.declared.Unread.{Unread}
use Rattle.isa.specs.Numbers.{number, values, number_in, read_said, written_said}
use Rattle.fields.specs.Fields.{bits}
use Rattle.reading.specs.Reading.{read_of, Reads}
use Rattle.writing.specs.Writing.{write_of, Writes}
use Rattle.words.specs.Formed.{Formed}

-- a word that reads as an instruction is the word of that instruction
abbrev pub ReadWrite : Type 0
ReadWrite = (w : ℕ) (i : Instr) → w < 2 ^ 32 → read_of w ≡ Ok i → write_of i ≡ Some w

-- the word of an instruction reads as that instruction
abbrev pub WriteRead : Type 0
WriteRead = (i : Instr) (w : ℕ) → write_of i ≡ Some w → read_of w ≡ Ok i

abbrev pub WriteBelow : Type 0
WriteBelow = (i : Instr) (w : ℕ) → write_of i ≡ Some w → w < 2 ^ 32

-- the answers to a word: an instruction, or 12 or 13 under the major opcode 011110, or 14 under another
pub data Answer (w : ℕ) (r : Result Instr Unread) : Type 0 where
  instruction : (i : Instr) → read_said r ≡ values i → Answer w r
  unassigned : bits w 31 26 ≡ 30 → read_said r ≡ number 12 → Answer w r
  left_out : bits w 31 26 ≡ 30 → read_said r ≡ number 13 → Answer w r
  other : (bits w 31 26 ≡ 30 → ⊥) → read_said r ≡ number 14 → Answer w r

abbrev pub OneAnswer : Type 0
OneAnswer = (w : ℕ) → w < 2 ^ 32 → Answer w (read_of w)

-- what reads, and what has a word, is within its fields
abbrev pub ReadFormed : Type 0
ReadFormed = (w : ℕ) (i : Instr) → w < 2 ^ 32 → read_of w ≡ Ok i → Formed i

abbrev pub WriteFormed : Type 0
WriteFormed = (i : Instr) (w : ℕ) → write_of i ≡ Some w → Formed i

-- and what is within its fields has a word: 6 is given exactly where an instruction is not
abbrev pub FormedWrites : Type 0
FormedWrites = (i : Instr) → Formed i → number_in (written_said (write_of i)) ≡ 0

-- two answers that meet the promise are equal
abbrev pub ReadUnique : Type 0
ReadUnique = (w : ℕ) (r s : Result Instr Unread) → Reads w r → Reads w s → r ≡ s

abbrev pub WriteUnique : Type 0
WriteUnique = (i : Instr) (r s : Option ℕ) → Writes i r → Writes i s → r ≡ s
