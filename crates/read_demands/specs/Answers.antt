-- What `msa_run_read` answers and leaves (request 12/12): the number of the first row that applies of document 01's two
-- tables with 51 behind the limits and before 20, and with 17 the address that is missing. With 1 to 5 and with 51
-- nothing is changed. With every other number the call answers and leaves what `msa_run` does on the same bytes. What
-- the list holds on entry does not count, and what it holds behind the program's words is kept.
use Rattle.std.specs.Prelude.{◌≡◌, List, [], ◌∷◌, ◌++◌, ℕ, ◌*◌, ◌≤◌, ◌<◌, length, get_or}
use Rattle.memory.specs.Bytes.{AreBytes}
use Rattle.state.specs.Machine.{Env, Machine}
use Rattle.entry.specs.declared.MsaEnded.{MsaEnded}
use Rattle.demands.specs.Limits.{limits}
use Rattle.demands.specs.Missing.{Names}
use Rattle.demands.specs.Reasons.{stops}
use Rattle.demands.specs.Tables.{Row, row, First, Not}
use Rattle.entry_demands.specs.Calls.{Given, Lent, env_of, machine_of, Call}
use Rattle.read_demands.specs.Calls.{ReadCall}

-- ---- the table

-- the list has fewer entries than the program has words, which are four bytes each
abbrev pub Short : List ℕ → List ℕ → Type 0
Short p list = 4 * length list < length p

abbrev pub short : List ℕ → List ℕ → Row
short p list = row 51 (Short p list)

abbrev pub limits_of : Given → Lent → List Row
limits_of g x = limits g.program (env_of g x) (machine_of x)

-- the refusals of a call
abbrev pub refusals : Given → Lent → List ℕ → List Row
refusals g x list = limits_of g x ++ short g.program list ∷ []

-- ---- the answers

-- 51 stands between the limits and 20; the stops are those of the machine that the call leaves
pub record ReadAnswers (p : List ℕ) (e : Env) (budget : ℕ) (m : Machine) (list : List ℕ) (reason count : ℕ)
    (after : Machine) : Type 1 where
  pub number : First (limits p e m ++ short p list ∷ row 20 (count ≡ budget) ∷ stops p e after) reason
  pub some : Not (reason ≡ 0)

abbrev pub ReadCalled : Type 1
ReadCalled =
    (g : Given) (budget : ℕ) (x y : Lent) (list list' : List ℕ) (r : MsaEnded) → AreBytes x.control
    → ReadCall g budget x list r y list'
    → ReadAnswers g.program (env_of g x) budget (machine_of x) list r.reason r.count (machine_of y)

abbrev pub ReadMissingCalled : Type 0
ReadMissingCalled =
    (g : Given) (budget : ℕ) (x y : Lent) (list list' : List ℕ) (r : MsaEnded) → AreBytes x.control
    → ReadCall g budget x list r y list'
    → Names g.program (env_of g x) (machine_of y) r.reason r.missing

-- ---- refusals

-- the number n with nothing changed
pub record Refuses (n : ℕ) (x : Lent) (list : List ℕ) (r : MsaEnded) (y : Lent) (list' : List ℕ) : Type 0 where
  pub reason : r.reason ≡ n
  pub count : r.count ≡ 0
  pub missing : r.missing ≡ 0
  pub lent : y ≡ x
  pub entries : list' ≡ list

abbrev pub ReadRefuses : Type 1
ReadRefuses =
    (g : Given) (budget n : ℕ) (x y : Lent) (list list' : List ℕ) (r : MsaEnded)
    → ReadCall g budget x list r y list' → First (refusals g x list) n → Not (n ≡ 0)
    → Refuses n x list r y list'

-- 51 is answered exactly where no limit is broken and the list is too short
abbrev pub ReadShort : Type 1
ReadShort =
    (g : Given) (budget : ℕ) (x y : Lent) (list list' : List ℕ) (r : MsaEnded) → ReadCall g budget x list r y list'
    → (r.reason ≡ 51 → First (limits_of g x) 0 × Short g.program list)
    × (First (limits_of g x) 0 → Short g.program list → r.reason ≡ 51)

-- ---- beside `msa_run`

-- where none of the six rows applies, the call is one of `msa_run`
abbrev pub ReadRuns : Type 1
ReadRuns =
    (g : Given) (budget : ℕ) (x y : Lent) (list list' : List ℕ) (r : MsaEnded)
    → ReadCall g budget x list r y list' → First (refusals g x list) 0
    → Call g budget x r y

-- two calls on the same bytes, a of `msa_run` and b of `msa_run_read`
abbrev pub SameRun : Type 0
SameRun =
    (g : Given) (budget : ℕ) (x y z : Lent) (list list' : List ℕ) (a b : MsaEnded)
    → Call g budget x a y → ReadCall g budget x list b z list' → Not (b.reason ≡ 51)
    → (b ≡ a) × (z ≡ y)

-- ---- the list

-- two calls on the same bytes with the lists k and l, neither too short; where they run, the entries of the program's
-- words are the same after both
abbrev pub ReadSame : Type 1
ReadSame =
    (g : Given) (budget : ℕ) (x y z : Lent) (k k' l l' : List ℕ) (a b : MsaEnded)
    → ReadCall g budget x k a y k' → ReadCall g budget x l b z l' → Not (a.reason ≡ 51) → Not (b.reason ≡ 51)
    → (a ≡ b) × (y ≡ z)
    × (First (limits_of g x) 0 → (i : ℕ) → 4 * i < length g.program → get_or k' i 0 ≡ get_or l' i 0)

-- the list keeps its length, and each entry behind those of the program's words
abbrev pub KeepsTail : List ℕ → List ℕ → List ℕ → Type 0
KeepsTail p list list' =
    (length list' ≡ length list) × ((i : ℕ) → length p ≤ 4 * i → get_or list' i 0 ≡ get_or list i 0)

-- after every call
abbrev pub TailKept : Type 0
TailKept =
    (g : Given) (budget : ℕ) (x y : Lent) (list list' : List ℕ) (r : MsaEnded) → ReadCall g budget x list r y list'
    → KeepsTail g.program list list'
