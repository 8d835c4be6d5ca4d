-- Request 6/12: why did it stop? The call on a step's lent memory names the true reason. Its number is the step's; the
-- row of that number is the first that applies of document 01's two tables, and the word and the fact that it gives are
-- those that stand behind the row; where it names no reason the step is finished. That the call changes nothing is its
-- type: it is lent everything for reading.
use Rattle.std.specs.Prelude.{◌≡◌, List, ◌++◌, ℕ, Ok}
use Rattle.state.specs.Machine.{Env, Machine, machine}
use Rattle.state.specs.Setup.{refusal}
use Rattle.machine.specs.declared.run.Ended.{Ended}
use Rattle.machine.specs.declared.step.Answered.{Answered}
use Rattle.machine.specs.declared.why.Cause.{Cause}
use Rattle.machine.specs.Numbers.{answer_number, reason_number, answer_carried, reason_carried}
use Rattle.machine.specs.Run.{RunIs, whole_run}
use Rattle.machine.specs.Step.{WholeIs, step_of, whole_step}
use Rattle.machine.specs.Why.{WhyIs, why_of}
use Rattle.demands.specs.Limits.{limits}
use Rattle.demands.specs.Reasons.{stops}
use Rattle.demands.specs.Tables.{Says, Not}

-- of an accepted set-up it answers the step's outcome, so that it names a number where and only where the step stops so
abbrev pub WhyOutcome : Type 0
WhyOutcome =
    (p : List ℕ) (e : Env) (m : Machine) (y : Cause) → WhyIs (why_of p e m) y → refusal p e m ≡ Ok tt
    → y.answer ≡ Ok (step_of p e m).outcome

-- the call and a step on the same memory answer the same, refusals too
abbrev pub WhyAgrees : Type 0
WhyAgrees =
    (p : List ℕ) (e : Env) (m : Machine) (y : Cause) (r : Answered) (v g w : List ℕ) → WhyIs (why_of p e m) y
    → WholeIs (whole_step p e m) r v g w
    → y.answer ≡ r.answer

-- the true reason
abbrev pub WhySays : Type 1
WhySays =
    (p : List ℕ) (e : Env) (m : Machine) (y : Cause) → WhyIs (why_of p e m) y
    → Says (limits p e m ++ stops p e m) (answer_number y.answer) y.word y.fact

-- and there is one, with one word and one fact
abbrev pub OneReason : Type 1
OneReason =
    (p : List ℕ) (e : Env) (m : Machine) (n k w v x y : ℕ) → Says (limits p e m ++ stops p e m) n w x
    → Says (limits p e m ++ stops p e m) k v y
    → (n ≡ k) × (w ≡ v) × (x ≡ y)

-- no reason is named exactly where the set-up is accepted and the step is finished
pub record Goes (p : List ℕ) (e : Env) (m : Machine) : Type 0 where
  pub accepted : refusal p e m ≡ Ok tt
  pub finished : (step_of p e m).outcome ≡ Ok tt

abbrev pub WhyGoes : Type 0
WhyGoes =
    (p : List ℕ) (e : Env) (m : Machine) (y : Cause) → WhyIs (why_of p e m) y
    → (answer_number y.answer ≡ 0 → Goes p e m) × (Goes p e m → answer_number y.answer ≡ 0)

-- asked of the memory that a run has left which did not spend its budget, it names the run's refusal or stop
abbrev pub WhyAfterRun : Type 0
WhyAfterRun =
    (p : List ℕ) (e : Env) (budget : ℕ) (m : Machine) (r : Ended) (v g w : List ℕ) (y : Cause)
    → RunIs (whole_run p e budget m) r v g w
    → WhyIs (why_of p e (machine v g w r.control)) y
    → Not (reason_number r.reason ≡ 20)
    → (answer_number y.answer ≡ reason_number r.reason) × (answer_carried y.answer ≡ reason_carried r.reason)
