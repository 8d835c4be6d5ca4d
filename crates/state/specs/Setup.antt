-- The set-up limits: document 01's table, a row a limit, in its order.
use Rattle.std.specs.Prelude.{◌≡◌, ℕ, ◌+◌, ◌%◌, ◌^◌, Bool, false, cond, not, ◌&&◌, ◌||◌, List, [], ◌∷◌, length, ◌==◌, nat_lt, Ok, Err, Result, ⊤}
use Rattle.memory.specs.Bytes.{part, number}
use Rattle.state.specs.declared.control.Control.{Control}
use Rattle.state.specs.declared.control.Mark.{Mark}
use Rattle.state.specs.declared.control.Mark.TheVariants.{Clear, NotTaken, Taken}
use Rattle.state.specs.declared.setup.Refusal.{Refusal}
use Rattle.state.specs.declared.setup.Refusal.TheVariants.{Registers, Program, WindowSize, SharedAddress, State}
use Rattle.state.specs.declared.board.Board.{Board}
use Rattle.state.specs.Csr.{masked}
use Rattle.state.specs.Machine.{Env, Machine}
use Rattle.state.specs.Numbers.{refusal_number}

-- document 01's number of what the limits say; 0 where the set-up is accepted
abbrev pub setup_number : Result ⊤ Refusal → ℕ
setup_number (Ok tt) = 0
setup_number (Err r) = refusal_number r

-- 512 bytes of vector registers and 32 general registers of 8
abbrev pub registers_bad : ℕ → ℕ → Bool
registers_bad vectors generals = not (vectors == 512) || not (generals == 256)

-- n bytes from base: whole words from a multiple of 4, at most 65,536 of them, to 2^64 at the most
abbrev pub program_bad : ℕ → ℕ → Bool
program_bad base n = not (base % 4 == 0) || not (n % 4 == 0) || nat_lt 262144 n || nat_lt (2 ^ 64) (base + n)

abbrev pub window_bad : ℕ → ℕ → Bool
window_bad base n = nat_lt 1048576 n || nat_lt (2 ^ 64) (base + n)

-- windows of n bytes from a and of k bytes from b: neither is empty, and each begins before the other ends
abbrev pub shares : ℕ → ℕ → ℕ → ℕ → Bool
shares a n b k = not (n == 0) && not (k == 0) && nat_lt b (a + n) && nat_lt a (b + k)

abbrev pub target_bad : Mark → Bool
target_bad Clear = false
target_bad NotTaken = false
target_bad (Taken t) = not (t % 4 == 0)

-- the value of general register 0, and the control block
abbrev pub state_bad : ℕ → Control → Bool
state_bad r0 c = not (r0 == 0) || not (c.pc % 4 == 0) || target_bad c.mark || not (masked c.csr == c.csr)

-- a row of the table
pub record Limit : Type 0 where
  pub broken : Bool
  pub refusal : Refusal

abbrev row : Bool → Refusal → Limit
row b r = record { broken = b; refusal = r }

-- the first row that is broken
unfoldable pub first : List Limit → Result ⊤ Refusal
first [] = Ok tt
first (l ∷ ls) = cond l.broken (Err l.refusal) (first ls)

-- 2 to 5, for a program, a table and a work window of these lengths and general registers of these bytes
abbrev pub later_limits : Board → ℕ → ℕ → List ℕ → ℕ → Control → List Limit
later_limits b program table generals work c =
    row (program_bad b.program program) Program
    ∷ row (window_bad b.table table || window_bad b.work work) WindowSize
    ∷ row (shares b.table table b.work work) SharedAddress
    ∷ row (state_bad (number (part generals 0 8)) c) State
    ∷ []

abbrev pub limits : List ℕ → Env → Machine → List Limit
limits program e m =
    row (registers_bad (length m.vec) (length m.gen)) Registers
    ∷ later_limits e.board (length program) (length e.table) m.gen (length m.work) m.ctl

unfoldable pub refusal : List ℕ → Env → Machine → Result ⊤ Refusal
refusal program e m = first (limits program e m)

-- what checking a set-up promises: the answer has the definition's number
pub record Checks (s r : Result ⊤ Refusal) : Type 0 where
  pub number : setup_number r ≡ setup_number s
