-- Request 3/12: which byte was missing. With 17 a step or a run names the first of the sixteen addresses of the load
-- or store, counted upward modulo 2^64, that does not lie in the window holding the first byte, or the first address
-- itself if no window holds it. With every other number it names 0.
use Rattle.std.specs.Prelude.{◌≡◌, List, ℕ, ◌+◌, ◌%◌, ◌^◌, ◌<◌, length, Ok}
use Rattle.state.specs.Machine.{Env, Machine, machine}
use Rattle.state.specs.Setup.{refusal}
use Rattle.machine.specs.declared.run.Ended.{Ended}
use Rattle.machine.specs.declared.step.Answered.{Answered}
use Rattle.machine.specs.Numbers.{answer_number, reason_number, answer_missing, reason_missing}
use Rattle.machine.specs.Run.{RunIs, whole_run}
use Rattle.machine.specs.Step.{WholeIs, whole_step}
use Rattle.demands.specs.AtCounter.{Accesses, Does}
use Rattle.demands.specs.Tables.{Not, Inside}

-- of n addresses from a, counted upward modulo 2^64, x is the first that a window of len bytes from base does not hold
pub record FirstOutside (n base len a x : ℕ) : Type 0 where
  pub place : ℕ
  pub within : place < n
  pub is : x ≡ (a + place) % 2 ^ 64
  pub outside : Not (Inside base len x)
  pub before : (k : ℕ) → k < place → Inside base len ((a + k) % 2 ^ 64)

abbrev pub TableHolds : Env → ℕ → Type 0
TableHolds e a = Inside e.board.table (length e.table) a

abbrev pub WorkHolds : Env → Machine → ℕ → Type 0
WorkHolds e m a = Inside e.board.work (length m.work) a

-- the address x is missing from the sixteen of an access that begins at a
pub data Missing (e : Env) (m : Machine) (a x : ℕ) : Type 0 where
  table : TableHolds e a → FirstOutside 16 e.board.table (length e.table) a x → Missing e m a x
  work : WorkHolds e m a → FirstOutside 16 e.board.work (length m.work) a x → Missing e m a x
  nowhere : Not (TableHolds e a) → Not (WorkHolds e m a) → x ≡ a → Missing e m a x

-- what the number n names where the machine m stopped
pub record Names (p : List ℕ) (e : Env) (m : Machine) (n x : ℕ) : Type 0 where
  pub missing : n ≡ 17 → Does p e m (Accesses m (λ o a. Missing e m a x))
  pub none : Not (n ≡ 17) → x ≡ 0

-- there is one, since windows that are accepted share no address
abbrev pub OneMissing : Type 0
OneMissing =
    (p : List ℕ) (e : Env) (m : Machine) → refusal p e m ≡ Ok tt
    → (n x y : ℕ) → Names p e m n x → Names p e m n y → x ≡ y

-- `step::step`
abbrev pub StepMissing : Type 0
StepMissing =
    (p : List ℕ) (e : Env) (m : Machine) (r : Answered) (v g w : List ℕ) → WholeIs (whole_step p e m) r v g w
    → Names p e m (answer_number r.answer) (answer_missing r.answer)

-- `run::run`: of the machine that it leaves
abbrev pub RunMissing : Type 0
RunMissing =
    (p : List ℕ) (e : Env) (budget : ℕ) (m : Machine) (r : Ended) (v g w : List ℕ)
    → RunIs (whole_run p e budget m) r v g w
    → Names p e (machine v g w r.control) (reason_number r.reason) (reason_missing r.reason)
