-- The stops of a step: document 01's table, a row a number, in its order, each with the word and the fact of request
-- 6/12; and the answers of step and run by both tables: the number of the first limit that is broken, else, in a run,
-- 20 where the budget is spent, else that of the first stop that applies; 0 where none does.
-- (That a stop changes nothing is `StopKeeps` of Demand1.)
use Rattle.std.specs.Prelude.{◌≡◌, false, cond, List, [], ◌∷◌, ◌++◌, ℕ, Ok, Err}
use Rattle.isa.specs.declared.Memory.TheVariants.{St}
use Rattle.isa.specs.declared.Unread.TheVariants.{Unassigned, LeftOut, Other}
use Rattle.state.specs.declared.control.Mark.TheVariants.{Clear}
use Rattle.state.specs.Machine.{Env, Machine, machine}
use Rattle.state.specs.Setup.{refusal}
use Rattle.machine.specs.declared.run.Ended.{Ended}
use Rattle.machine.specs.declared.step.Answered.{Answered}
use Rattle.machine.specs.Numbers.{outcome_number, answer_number, reason_number}
use Rattle.machine.specs.Run.{RunIs, whole_run}
use Rattle.machine.specs.Step.{WholeIs, step_of, whole_step}
use Rattle.demands.specs.AtCounter.{IsBranch, IgnoresSwitch, Accesses, SetsCsr, InTable, InWork, Arms, TrapBits}
use Rattle.demands.specs.AtCounter.{StandsAt, ReadsAs, IsWord, Does}
use Rattle.demands.specs.Limits.{limits}
use Rattle.demands.specs.Missing.{Missing}
use Rattle.demands.specs.Tables.{Row, row, row_with, First, Not, Some}

-- ---- the table

-- behind 12 to 19 stand the word at the counter, w, and the fact x of which f holds
abbrev pub Behind : List ℕ → Env → Machine → (ℕ → ℕ → Type 0) → ℕ → ℕ → Type 0
Behind p e m f w x = IsWord p e m w × f w x

-- 12 to 19. The fact is the word itself; of 16 the switch, 1 on and 0 off; of 17 the address that is missing; of 18
-- that of the store's first byte; of 19 the bits that arm the trap
abbrev pub read_stops : List ℕ → Env → Machine → List Row
read_stops p e m =
    row_with 12 (ReadsAs p e m (Err Unassigned)) (Behind p e m (λ w x. x ≡ w))
    ∷ row_with 13 (ReadsAs p e m (Err LeftOut)) (Behind p e m (λ w x. x ≡ w))
    ∷ row_with 14 (ReadsAs p e m (Err Other)) (Behind p e m (λ w x. x ≡ w))
    ∷ row_with 15 (Does p e m (λ i. IsBranch i × Not (m.ctl.mark ≡ Clear))) (Behind p e m (λ w x. x ≡ w))
    ∷ row_with 16 (Does p e m (λ i. Not (IgnoresSwitch i) × (m.ctl.on ≡ false)))
    (Behind p e m (λ w x. x ≡ cond m.ctl.on 1 0))
    ∷ row_with 17 (Does p e m (Accesses m (λ o a. Not (InTable e a) × Not (InWork e m a))))
    (Behind p e m (λ w x. Does p e m (Accesses m (λ o a. Missing e m a x))))
    ∷ row_with 18 (Does p e m (Accesses m (λ o a. (o ≡ St) × InTable e a)))
    (Behind p e m (λ w x. Does p e m (Accesses m (λ o a. x ≡ a))))
    ∷ row_with 19 (Does p e m (SetsCsr m Arms)) (Behind p e m (λ w x. Does p e m (SetsCsr m (λ v. TrapBits v x))))
    ∷ []

-- the whole table; behind 11 there is no word, and the fact is the counter
abbrev pub stops : List ℕ → Env → Machine → List Row
stops p e m = row_with 11 (Not (Some (StandsAt p e m))) (λ w x. (w ≡ 0) × (x ≡ m.ctl.pc)) ∷ read_stops p e m

abbrev pub FirstReason : Type 1
FirstReason =
    (p : List ℕ) (e : Env) (m : Machine) → refusal p e m ≡ Ok tt
    → First (stops p e m) (outcome_number (step_of p e m).outcome)

-- ---- the answers

-- `step::step`
abbrev pub StepAnswers : Type 1
StepAnswers =
    (p : List ℕ) (e : Env) (m : Machine) (r : Answered) (v g w : List ℕ) → WholeIs (whole_step p e m) r v g w
    → First (limits p e m ++ stops p e m) (answer_number r.answer)

-- `run::run`: the stops are those of the machine that it leaves, and there is one
pub record Answers (p : List ℕ) (e : Env) (budget : ℕ) (m : Machine) (reason count : ℕ) (after : Machine) : Type 1 where
  pub number : First (limits p e m ++ row 20 (count ≡ budget) ∷ stops p e after) reason
  pub some : Not (reason ≡ 0)

abbrev pub RunAnswers : Type 1
RunAnswers =
    (p : List ℕ) (e : Env) (budget : ℕ) (m : Machine) (r : Ended) (v g w : List ℕ)
    → RunIs (whole_run p e budget m) r v g w
    → Answers p e budget m (reason_number r.reason) r.count (machine v g w r.control)
