-- How large a budget is enough (request 10/12): for a program whose branches all go forward, by the words that are left
-- from the counter on.
use Rattle.std.specs.Prelude.{ℕ, zero, suc, ◌+◌, ◌-◌, ◌*◌, ◌/◌, Bool, true, cond, ◌&&◌, List, pos, length, Ok, Err, Some, None, Result, Option}
use Rattle.std.specs.Int.Signed.{lt_z}
use Rattle.isa.specs.declared.Instr.{Instr}
use Rattle.isa.specs.declared.Instr.TheVariants as instr
use Rattle.isa.specs.declared.Unread.{Unread}
use Rattle.element.specs.Value.{signed}
use Rattle.memory.specs.Bytes.{part, number}
use Rattle.reading.specs.Reading.{read_of}
use Rattle.state.specs.Fetch.{fetched}
use Rattle.state.specs.Setup.{program_bad}

-- an offset of at least 1
unfoldable pub ahead : ℕ → Bool
ahead offset = lt_z (pos 0) (signed 16 offset)

-- an instruction that is no branch, or a branch whose offset is at least 1
abbrev pub instr_forward : Instr → Bool
instr_forward (instr.Three k df wd ws wt) = true
instr_forward (instr.Indexed k df wd ws rt) = true
instr_forward (instr.Imm5U k df wd ws imm) = true
instr_forward (instr.Imm5S k df wd ws imm) = true
instr_forward (instr.Ldi df wd imm) = true
instr_forward (instr.Bit k df wd ws n) = true
instr_forward (instr.Imm8 k wd ws imm) = true
instr_forward (instr.Shf df wd ws imm) = true
instr_forward (instr.Element k df wd ws n) = true
instr_forward (instr.Insve df wd n ws) = true
instr_forward (instr.Copy k df rd ws n) = true
instr_forward (instr.Insert df wd n rs) = true
instr_forward (instr.Move wd ws) = true
instr_forward (instr.Cfcmsa rd cs) = true
instr_forward (instr.Ctcmsa cd rs) = true
instr_forward (instr.Vec k wd ws wt) = true
instr_forward (instr.Fill df wd rs) = true
instr_forward (instr.Count k df wd ws) = true
instr_forward (instr.Memory k df wd offset rs) = true
instr_forward (instr.Branch k df wt offset) = ahead offset
instr_forward (instr.BranchV k wt offset) = ahead offset
instr_forward (instr.Scaled k rd rs rt sa) = true
instr_forward (instr.Fixed k df wd ws wt) = true

-- a word that reads as no instruction branches nowhere
abbrev pub forward : Result Instr Unread → Bool
forward (Err u) = true
forward (Ok i) = instr_forward i

-- the first n words of a program
unfoldable pub forward_to : List ℕ → ℕ → Bool
forward_to p zero = true
forward_to p (suc n) = forward_to p n && forward (read_of (number (part p (4 * n) 4)))

-- how many words a program has
abbrev pub words : List ℕ → ℕ
words p = length p / 4

-- from word i on, where every branch goes forward: one more than there are words left; else none
abbrev pub from_word : List ℕ → ℕ → ℕ
from_word p i = cond (forward_to p (words p)) (words p - i + 1) 0

-- by what stands at the counter, word i
abbrev pub enough : Option ℕ → List ℕ → ℕ → ℕ
enough (Some w) p i = from_word p i
enough None p i = 1

-- and none, which is 0, of a program that set-up refuses with 2
unfoldable pub budget_of : List ℕ → ℕ → ℕ → ℕ
budget_of p base counter =
    cond (program_bad base (length p)) 0 (enough (fetched p base counter) p ((counter - base) / 4))
