-- The answers of step and run by both tables: the limits come first, and the rest is the first reason where the machine
-- stands then. Assumes nothing.
use mathlib.Core.Path.{◌≡◌, refl, sym, ap, ◌∙◌, subst}
use mathlib.Core.List.{List, ◌∷◌, ◌++◌}
use Prim.Native.Nat.{ℕ, ◌<◌}
use native.Mathlib.Omega.{arith}
use Rattle.isa.specs.declared.Unread.TheVariants.{Unassigned, LeftOut, Other}
use Rattle.state.specs.declared.setup.Refusal.{Refusal}
use Rattle.state.specs.declared.setup.Refusal.TheVariants as refusal
use Rattle.std.specs.Prelude.{Ok, Err, Result, ⊤}
use Rattle.state.specs.declared.stops.Stop.{Stop}
use Rattle.state.specs.declared.stops.Stop.TheVariants as stop
use Rattle.state.specs.Machine.{Env, Machine, machine}
use Rattle.state.specs.Numbers.{refusal_number, stop_number}
use Rattle.state.specs.Setup as setup
use Rattle.machine.specs.declared.run.Reason.{Reason}
use Rattle.machine.specs.declared.run.Reason.TheVariants as reason
use Rattle.machine.specs.Numbers.{outcome_number, answer_number, reason_number}
use Rattle.machine.specs.Run.{Run, runs, admitted, whole_run}
use Rattle.machine.specs.Step.{Ending, step_of, whole, whole_step}
use Rattle.machine.proofs.RunLaws.{same-machine}
use Rattle.demands.specs.Demand1.{Why, spent, stopped}
use Rattle.demands.specs.Limits.{limits}
use Rattle.demands.specs.Reasons.{stops, StepAnswers, Answers, RunAnswers}
use Rattle.demands.specs.Tables.{row, First, given, passed, Not}
use Rattle.demands.proofs.Demand1.{accepted-run}
use Rattle.demands.proofs.Kept.{steps-accepted}
use Rattle.demands.proofs.Limits.{or_number, limits-first}
use Rattle.demands.proofs.Reasons.{first-reason}

whole-number : (q : Result ⊤ Refusal) (s : Ending) (m : Machine)
    → or_number q (outcome_number s.outcome) ≡ answer_number (whole q s m).answer
whole-number (Ok tt) s m = refl
whole-number (Err r) s m = refl

-- the definition's step
pub step-first : (p : List ℕ) (e : Env) (m : Machine)
    → First (limits p e m ++ stops p e m) (answer_number (whole_step p e m).answer)
step-first p e m =
    rw (whole-number (setup.refusal p e m) (step_of p e m) m) at
    (limits-first p e m (stops p e m) (outcome_number (step_of p e m).outcome) (first-reason p e m))

pub step-answers : StepAnswers
step-answers p e m r v g w i = rw i.answer (step-first p e m)

-- the numbers of refusals and stops
pub refusal-between : (r : Refusal) → (0 < refusal_number r) × (refusal_number r < 6)
refusal-between refusal.Registers = (omega arith, omega arith)
refusal-between refusal.Program = (omega arith, omega arith)
refusal-between refusal.WindowSize = (omega arith, omega arith)
refusal-between refusal.SharedAddress = (omega arith, omega arith)
refusal-between refusal.State = (omega arith, omega arith)

pub stop-between : (s : Stop) → (10 < stop_number s) × (stop_number s < 20)
stop-between stop.NoWord = (omega arith, omega arith)
stop-between (stop.Unread Unassigned) = (omega arith, omega arith)
stop-between (stop.Unread LeftOut) = (omega arith, omega arith)
stop-between (stop.Unread Other) = (omega arith, omega arith)
stop-between stop.BranchInSlot = (omega arith, omega arith)
stop-between stop.SwitchedOff = (omega arith, omega arith)
stop-between (stop.NoWindow x) = (omega arith, omega arith)
stop-between (stop.ReadOnly x) = (omega arith, omega arith)
stop-between (stop.Trap bits) = (omega arith, omega arith)

-- a reason is 20 or below it, and never 0
pub data Reasoned : Reason → Type 0 where
  spends : Reasoned reason.Spent
  fewer : {r : Reason} → 0 < reason_number r → reason_number r < 20 → Reasoned r

pub reasoned : (r : Reason) → Reasoned r
reasoned (reason.Refused r) = let h = refusal-between r in fewer {r = reason.Refused r} h.0 (omega arith)
reasoned (reason.Stopped s) = let h = stop-between s in fewer {r = reason.Stopped s} (omega (arith, h.0)) h.1
reasoned reason.Spent = spends

reason-some : (r : Reason) → Reasoned r → Not (reason_number r ≡ 0)
reason-some r spends h = omega arith
reason-some r (fewer l u) h = omega arith

module _ (p : List ℕ) (e : Env) (budget : ℕ) where
  -- why it ended, as a row
  why-first : (count : ℕ) (m : Machine) (r : Reason) → setup.refusal p e m ≡ Ok tt → Why p e budget count m r
      → First (row 20 (count ≡ budget) ∷ stops p e m) (reason_number r)
  why-first count m r a (spent h) = given h
  why-first count m r a (stopped s l h) = passed (λ (z : count ≡ budget). omega arith) (rw h at (first-reason p e m a))

  run-number : (q : Result ⊤ Refusal) (r : Run) (m : Machine)
      → or_number q (reason_number r.reason) ≡ reason_number (admitted q r m).reason
  run-number (Ok tt) r m = refl
  run-number (Err x) r m = refl

  -- the definition's run
  pub run-first : (m : Machine)
      → Answers p e budget m (reason_number (whole_run p e budget m).reason) (whole_run p e budget m).count
      (whole_run p e budget m).after
  run-first m =
      record {
        number =
            rw (run-number (setup.refusal p e m) (runs p e budget m) m) at
            (limits-first p e m _ (reason_number (runs p e budget m).reason) (λ a. accepted-first a));
        some = reason-some (whole_run p e budget m).reason (reasoned (whole_run p e budget m).reason);
      }
    where
      accepted-first : setup.refusal p e m ≡ Ok tt
          → First (row 20 ((whole_run p e budget m).count ≡ budget) ∷ stops p e (whole_run p e budget m).after)
          (reason_number (runs p e budget m).reason)
      accepted-first a =
          let ends = accepted-run p e budget m a in
          let n : reason_number (whole_run p e budget m).reason ≡ reason_number (runs p e budget m).reason = rw a in
          subst (First (row 20 ((whole_run p e budget m).count ≡ budget) ∷ stops p e (whole_run p e budget m).after)) n
          (why-first _ _ _ (steps-accepted p e _ m _ ends.steps a) ends.why)

pub run-answers : RunAnswers
run-answers p e budget m r v g w i =
    let s = whole_run p e budget m in
    rw (i.reason, i.count, ← same-machine s.after v g w r.control i.vec i.gen i.work i.control)
    (run-first p e budget m)
