-- How long a run can take (request 10/12). Where every branch in a program of n words has an offset of at least 1, a
-- run from word i with a clear slot mark stops by itself after at most n - i finished instructions, so budget n - i + 1
-- never answers 20. Nothing else is asked: words may read as no instruction, the switch may be off, the program may end
-- at 2^64 and a target lie beyond. (An offset of 0 is too little: `Laps`.)
use Rattle.std.specs.Prelude.{◌≡◌, List, ℕ, ◌+◌, ◌-◌, ◌*◌, ◌/◌, ◌^◌, ◌≤◌, ◌<◌, length, Ok, Err}
use Rattle.isa.specs.declared.Instr.{Instr}
use Rattle.reading.specs.Reading.{read_of}
use Rattle.state.specs.declared.control.Mark.TheVariants.{Clear}
use Rattle.state.specs.declared.stops.Stop.{Stop}
use Rattle.state.specs.Machine.{Env, Machine}
use Rattle.state.specs.Setup.{refusal}
use Rattle.machine.specs.declared.run.Reason.TheVariants.{Spent}
use Rattle.machine.specs.Run.{Run, whole_run}
use Rattle.machine.specs.Step.{step_of}
use Rattle.demands.specs.AtCounter.{IsBranch, offset_of, StandsAt}
use Rattle.demands.specs.Demand1.{Steps}
use Rattle.demands.specs.Tables.{Not, little}

-- how many words a program has
abbrev pub words : List ℕ → ℕ
words p = length p / 4

-- an offset is signed: from 2^15 on it stands for 2^16 less. So it is at least 1 here
abbrev pub AtLeastOne : ℕ → Type 0
AtLeastOne offset = (1 ≤ offset) × (offset < 2 ^ 15)

-- every branch in a program has such an offset
abbrev pub Forward : List ℕ → Type 0
Forward p =
    (i : ℕ) (x : Instr) → i < words p → read_of (little p (4 * i) 4) ≡ Ok x
    → (b : IsBranch x) → AtLeastOne (offset_of b)

-- an accepted machine at word i, with a clear slot mark
pub record Starts (p : List ℕ) (e : Env) (m : Machine) (i : ℕ) : Type 0 where
  pub ok : refusal p e m ≡ Ok tt
  pub at : StandsAt p e m i
  pub clear : m.ctl.mark ≡ Clear

-- ---- over the steps

-- no more than n - i of them are finished
abbrev pub ForwardSteps : Type 0
ForwardSteps =
    (p : List ℕ) (e : Env) (m m' : Machine) (i k : ℕ) → Forward p → Starts p e m i → Steps p e k m m' → k ≤ words p - i

-- steps that come to one that stops, after at most n
pub record StopsWithin (p : List ℕ) (e : Env) (m : Machine) (n : ℕ) : Type 0 where
  pub count : ℕ
  pub within : count ≤ n
  pub after : Machine
  pub steps : Steps p e count m after
  pub stop : Stop
  pub stops : (step_of p e after).outcome ≡ Err stop

abbrev pub ForwardStops : Type 0
ForwardStops =
    (p : List ℕ) (e : Env) (m : Machine) (i : ℕ) → Forward p → Starts p e m i → StopsWithin p e m (words p - i)

-- ---- over a run, whatever its budget

-- at most n instructions are finished, and budget n + 1 is not spent
pub record Bounded (n budget : ℕ) (r : Run) : Type 0 where
  pub count : r.count ≤ n
  pub unspent : n + 1 ≤ budget → Not (r.reason ≡ Spent)

abbrev pub ForwardRun : Type 0
ForwardRun =
    (p : List ℕ) (e : Env) (m : Machine) (i budget : ℕ) → Forward p → Starts p e m i
    → Bounded (words p - i) budget (whole_run p e budget m)
