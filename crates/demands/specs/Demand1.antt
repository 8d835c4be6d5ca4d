-- Demand 1. Every set-up and budget gets an answer. A refused run has count 0 and changes nothing. An accepted one never passes its budget, and
-- leaves exactly the machine after `count` finished steps; there its budget is spent, or the next step stops, and that is its reason.
-- (The first reason of document 01 and no other: `Reasons` says so of each step and of each run.) A run that spent its budget can be gone on with.
use Rattle.std.specs.Prelude.{◌≡◌, List, ℕ, suc, ◌+◌, ◌≤◌, ◌<◌, Ok, Err}
use Rattle.state.specs.declared.setup.Refusal.{Refusal}
use Rattle.state.specs.declared.stops.Stop.{Stop}
use Rattle.state.specs.Machine.{Env, Machine}
use Rattle.state.specs.Setup.{refusal}
use Rattle.machine.specs.declared.run.Reason.{Reason}
use Rattle.machine.specs.declared.run.Reason.TheVariants as reason
use Rattle.machine.specs.Run.{Run, adding, ended, whole_run}
use Rattle.machine.specs.Step.{step_of}

-- n finished steps lead from one machine to another
pub data Steps (p : List ℕ) (e : Env) : ℕ → Machine → Machine → Type 0 where
  none : {m : Machine} → Steps p e 0 m m
  more : {n : ℕ} {m m' : Machine} → (step_of p e m).outcome ≡ Ok tt → Steps p e n (step_of p e m).after m' → Steps p e (suc n) m m'

-- why a run with this budget ends after count steps at m
pub data Why (p : List ℕ) (e : Env) (budget count : ℕ) (m : Machine) : Reason → Type 0 where
  spent : count ≡ budget → Why p e budget count m reason.Spent
  stopped : (s : Stop) → count < budget → (step_of p e m).outcome ≡ Err s → Why p e budget count m (reason.Stopped s)

pub record Ends (p : List ℕ) (e : Env) (budget : ℕ) (m : Machine) (r : Run) : Type 0 where
  pub within : r.count ≤ budget
  pub steps : Steps p e r.count m r.after
  pub why : Why p e budget r.count r.after r.reason

abbrev pub AcceptedRun : Type 0
AcceptedRun = (p : List ℕ) (e : Env) (budget : ℕ) (m : Machine) → refusal p e m ≡ Ok tt → Ends p e budget m (whole_run p e budget m)

abbrev pub RefusedRun : Type 0
RefusedRun =
    (p : List ℕ) (e : Env) (budget : ℕ) (m : Machine) (r : Refusal) → refusal p e m ≡ Err r → whole_run p e budget m ≡ ended (reason.Refused r) m

-- budget 0 answers 20
abbrev pub NoBudget : Type 0
NoBudget = (p : List ℕ) (e : Env) (m : Machine) → refusal p e m ≡ Ok tt → whole_run p e 0 m ≡ ended reason.Spent m

-- a step that stops changes nothing
abbrev pub StopKeeps : Type 0
StopKeeps = (p : List ℕ) (e : Env) (m : Machine) (s : Stop) → (step_of p e m).outcome ≡ Err s → (step_of p e m).after ≡ m

-- a run that spent its budget and a second from where it stopped are one run
abbrev pub GoesOn : Type 0
GoesOn =
    (p : List ℕ) (e : Env) (n k : ℕ) (m : Machine) → refusal p e m ≡ Ok tt → (whole_run p e n m).reason ≡ reason.Spent
    → whole_run p e (n + k) m ≡ adding n (whole_run p e k (whole_run p e n m).after)
