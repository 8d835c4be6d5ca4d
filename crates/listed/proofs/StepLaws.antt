-- A step by an entry of the list is the step that the program's word at the counter makes. Assumes nothing.
use Rattle.std.proofs.Common.{◌≡◌, ℕ, ◌^◌, ◌<◌, List, get_or, refl, ap, ◌∙◌}
use Rattle.std.specs.Prelude.{Ok, Err, Some, None, Result}
use Rattle.isa.specs.declared.Unread.{Unread}
use Rattle.isa.specs.declared.Instr.{Instr}
use Rattle.acts.specs.Act.{plan_at, plan_read, FormedRead}
use Rattle.acts.proofs.Back.{plan-back}
use Rattle.entries.specs.Listed.{word_at}
use Rattle.reading.specs.Reading.{read_of}
use Rattle.words.proofs.Answers.{read-formed}
use Rattle.plan.specs.declared.Plan.{Plan}
use Rattle.plan.specs.declared.Plan.TheVariants as plan
use Rattle.state.specs.declared.control.Control.{Control}
use Rattle.state.specs.declared.stops.Stop.TheVariants as stop
use Rattle.state.specs.Fetch.{fetched}
use Rattle.state.specs.Machine.{Env, Machine}
use Rattle.machine.specs.declared.step.Stepped.{Stepped}
use Rattle.machine.specs.Effect.{control_after}
use Rattle.machine.specs.Step.{Ending, StepIs, concluded, decided, stops, step_of}
use Rattle.listed.specs.Turn.{Reads}

-- what a word of 32 bits reads as is within its fields
formed : (w : ℕ) → w < 2 ^ 32 → FormedRead (read_of w)
formed w h = go (read_of w) refl
  where
    go : (r : Result Instr Unread) → read_of w ≡ r → FormedRead r
    go (Err u) e = tt
    go (Ok i) e = read-formed w i h e

decided-read : (e : Env) (m : Machine) (r : Result Instr Unread) → decided r e m ≡ concluded e.board.work (plan_read e m r) m
decided-read e m (Err u) = refl
decided-read e m (Ok i) = refl

-- where no word stands, the step stops with 11
pub step-none : (p : List ℕ) (e : Env) (m : Machine) → fetched p e.board.program m.ctl.pc ≡ None
    → step_of p e m ≡ stops stop.NoWord m
unfolding step_of
step-none p e m f = rw f

module _ (base words : ℕ) (p l : List ℕ) (s : Reads base words p l) (i : ℕ) (h : i < words) (e : Env) (m : Machine)
  where
    planned : plan_at e m (get_or l i 0) ≡ plan_read e m (read_of (word_at p i))
    planned =
        ap (λ x. plan_at e m x) (s.at i h) ∙ plan-back (read_of (word_at p i)) (formed (word_at p i) (s.are i h)) e m

    pub step_from : fetched p e.board.program m.ctl.pc ≡ Some (word_at p i)
        → step_of p e m ≡ concluded e.board.work (plan_at e m (get_or l i 0)) m
    unfolding step_of
    step_from f = rw (f, planned) (decided-read e m (read_of (word_at p i)))

-- no plan switches the vector unit
kept_on : (p : Plan) (c : Control) → (control_after p c).on ≡ c.on
kept_on (plan.Stop s) c = refl
kept_on plan.Nothing c = refl
kept_on (plan.Vector r v) c = refl
kept_on (plan.General r x) c = refl
kept_on (plan.Store a v) c = refl
kept_on (plan.Csr x) c = refl
kept_on (plan.Branch k) c = refl

pub stays : (b : ℕ) (p : Plan) (m : Machine) {c : Control} → c ≡ (concluded b p m).after.ctl → c.on ≡ m.ctl.on
stays b p m e = ap (λ k. k.on) e ∙ kept_on p m.ctl

pub step_is : {s r : Ending} {t : Stepped} {v g w : List ℕ} → r ≡ s → StepIs s t v g w → StepIs r t v g w
step_is h i = rw h i
