-- A run: 20 is tested before each step, then the step is made.
use Rattle.std.specs.Prelude.{◌≡◌, ℕ, zero, suc, ◌+◌, List, Ok, Err, Result, ⊤}
use Rattle.state.specs.declared.setup.Refusal.{Refusal}
use Rattle.state.specs.declared.stops.Stop.{Stop}
use Rattle.state.specs.Machine.{Env, Machine}
use Rattle.state.specs.Setup.{refusal}
use Rattle.machine.specs.declared.run.Ended.{Ended}
use Rattle.machine.specs.declared.run.Reason.{Reason}
use Rattle.machine.specs.declared.run.Reason.TheVariants as reason
use Rattle.machine.specs.declared.step.Stepped.{Stepped}
use Rattle.machine.specs.Numbers.{reason_number, reason_carried}
use Rattle.machine.specs.Step.{step_of}

-- the reason, the count of finished instructions and the machine after the last of them
pub record Run : Type 0 where
  pub reason : Reason
  pub count : ℕ
  pub after : Machine

abbrev pub ended : Reason → Machine → Run
ended r m = record { reason = r; count = 0; after = m }

-- a run with n instructions more before it
abbrev pub adding : ℕ → Run → Run
adding n r = record { reason = r.reason; count = n + r.count; after = r.after }

-- after a step: the rest of the run where it was finished
abbrev pub onward : Result ⊤ Stop → Machine → Run → Run
onward (Ok tt) m rest = adding 1 rest
onward (Err s) m rest = ended (reason.Stopped s) m

unfoldable pub runs : List ℕ → Env → ℕ → Machine → Run
runs program e zero m = ended reason.Spent m
runs program e (suc budget) m = onward (step_of program e m).outcome (step_of program e m).after (runs program e budget (step_of program e m).after)

-- how a step ends that is made as a run of one instruction
abbrev pub outcome_in : Reason → Result ⊤ Stop
outcome_in (reason.Refused r) = Ok tt
outcome_in (reason.Stopped s) = Err s
outcome_in reason.Spent = Ok tt

abbrev pub stepped_as : Ended → Stepped
stepped_as r = record { outcome = outcome_in r.reason; control = r.control }

-- a run with its set-up limits: a refused one has count 0 and changes nothing
abbrev pub admitted : Result ⊤ Refusal → Run → Machine → Run
admitted (Ok tt) r m = r
admitted (Err x) r m = ended (reason.Refused x) m

abbrev pub whole_run : List ℕ → Env → ℕ → Machine → Run
whole_run program e budget m = admitted (refusal program e m) (runs program e budget m) m

-- the code's answer for a run, and what the lent memory holds then
pub record RunIs (s : Run) (r : Ended) (v g w : List ℕ) : Type 0 where
  pub reason : reason_number r.reason ≡ reason_number s.reason
  pub carried : reason_carried r.reason ≡ reason_carried s.reason
  pub count : r.count ≡ s.count
  pub control : r.control ≡ s.after.ctl
  pub vec : v ≡ s.after.vec
  pub gen : g ≡ s.after.gen
  pub work : w ≡ s.after.work
