-- Where a run from the list looks for its next entry, and what the entry is kept as.
use Rattle.std.specs.Prelude.{◌≡◌, ℕ, ◌+◌, ◌/◌, ◌%◌, ◌^◌, ◌<◌, ◌≤◌, cond, List, length, nat_lt, slice_index, Ok, Err, Some, None, Result}
use Rattle.acts.specs.Act.{unread_at}
use Rattle.entries.specs.Cut.{code_of}
use Rattle.entries.specs.Listed.{word_at, entry_at, AreWords}
use Rattle.isa.specs.declared.Unread.{Unread}
use Rattle.machine.specs.declared.step.Stepped.{Stepped}
use Rattle.machine.specs.Effect.{forwarded}
use Rattle.state.specs.declared.control.Control.{Control}
use Rattle.state.specs.declared.control.Mark.TheVariants.{Clear}
use Rattle.state.specs.declared.stops.Stop.{Stop}
use Rattle.state.specs.declared.stops.Stop.TheVariants as stop
use Rattle.state.specs.Fetch.{fetched}

-- a program that a set-up accepts stands in whole words below 2^64
pub record Stands (base : ℕ) (program : List ℕ) : Type 0 where
  pub words : length program % 4 ≡ 0
  pub few : length program ≤ 262144
  pub below : base + length program ≤ 2 ^ 64

-- r is the index of the word at pc, or past the words where there is none
pub record Placed (base pc r : ℕ) : Type 0 where
  pub found : (program : List ℕ) → Stands base program → r < length program / 4
      → fetched program base pc ≡ Some (word_at program r)
  pub none : (program : List ℕ) → Stands base program → length program / 4 ≤ r → fetched program base pc ≡ None

-- the first entries of the list are those of the program's words
pub record Reads (base words : ℕ) (program list : List ℕ) : Type 0 where
  pub stands : Stands base program
  pub all : words ≡ length program / 4
  pub long : words ≤ length list
  pub at : (i : ℕ) → i < words → slice_index list i ≡ entry_at program i
  pub are : AreWords program words

-- an entry is kept for an instruction, or for a word that reads as none
abbrev pub kept_as : ℕ → Result ℕ Unread
kept_as x = cond (nat_lt (code_of x) 109) (Ok (code_of x)) (Err (unread_at (code_of x)))

abbrev pub kept_stop : Result ℕ Unread → Stop
kept_stop (Err u) = stop.Unread u
kept_stop (Ok c) = stop.NoWord

-- a finished step that sets no slot mark
abbrev pub finished_with : Control → Stepped
finished_with c = record { outcome = Ok tt; control = forwarded c Clear c.csr }
