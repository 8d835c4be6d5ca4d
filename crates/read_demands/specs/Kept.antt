-- What the list keeps for each of the program's words after a run (request 12/12): for a word that reads as no
-- instruction an entry with its reason, which no entry of an instruction has. (That the reason is given only where the
-- run reaches the word is `ReadCalled`: its rows 12 to 14 are of the word at the counter of the machine that is left.)
use Rattle.std.specs.Prelude.{◌≡◌, List, ℕ, ◌*◌, ◌≤◌, ◌<◌, length, get_or, Ok, Err}
use Rattle.isa.specs.declared.Instr.{Instr}
use Rattle.isa.specs.declared.Unread.{Unread}
use Rattle.reading.specs.Reading.{read_of}
use Rattle.entries.specs.Cut.{code_of}
use Rattle.acts.specs.Act.{unread_at}
use Rattle.entry.specs.declared.MsaEnded.{MsaEnded}
use Rattle.demands.specs.Tables.{First, little}
use Rattle.entry_demands.specs.Calls.{Given, Lent}
use Rattle.read_demands.specs.Answers.{refusals}
use Rattle.read_demands.specs.Calls.{ReadCall}

-- the entry x is that of the word w: its code tells whether w is an instruction, and if not, why
pub record KeptFor (w x : ℕ) : Type 0 where
  pub unread : (u : Unread) → read_of w ≡ Err u → (109 ≤ code_of x) × (unread_at (code_of x) ≡ u)
  pub instruction : (i : Instr) → read_of w ≡ Ok i → code_of x < 109

-- the word of index i is the four bytes from 4 * i on, the least significant first
abbrev pub UnreadKept : Type 1
UnreadKept =
    (g : Given) (budget : ℕ) (x y : Lent) (list list' : List ℕ) (r : MsaEnded)
    → ReadCall g budget x list r y list' → First (refusals g x list) 0
    → (i : ℕ) → 4 * i < length g.program → KeptFor (little g.program (4 * i) 4) (get_or list' i 0)
