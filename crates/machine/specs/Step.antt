-- One step: the first reason that applies and the machine as it was, or finished and the machine after the instruction.
use Rattle.std.specs.Prelude.{◌≡◌, ℕ, List, Ok, Err, Some, None, Result, Option, ⊤}
use Rattle.state.specs.declared.setup.Refusal.{Refusal}
use Rattle.reading.specs.Reading.{read_of}
use Rattle.isa.specs.declared.Instr.{Instr}
use Rattle.isa.specs.declared.Unread.{Unread}
use Rattle.plan.specs.declared.Plan.{Plan}
use Rattle.plan.specs.declared.Plan.TheVariants as plan
use Rattle.plan.specs.Plan.{plan_of, stop_in}
use Rattle.state.specs.declared.control.Control.{Control}
use Rattle.state.specs.declared.stops.Stop.{Stop}
use Rattle.state.specs.declared.stops.Stop.TheVariants as stop
use Rattle.state.specs.Fetch.{fetched}
use Rattle.state.specs.Machine.{Env, Machine}
use Rattle.state.specs.Setup.{refusal}
use Rattle.machine.specs.declared.step.Stepped.{Stepped}
use Rattle.machine.specs.declared.step.Answered.{Answered}
use Rattle.machine.specs.Effect.{applied}
use Rattle.machine.specs.Numbers.{answer_number, answer_carried}

-- how a step ends, and the machine then
pub record Ending : Type 0 where
  pub outcome : Result ⊤ Stop
  pub after : Machine

abbrev pub result : Result ⊤ Stop → Machine → Ending
result o m = record { outcome = o; after = m }

abbrev pub stops : Stop → Machine → Ending
stops s m = result (Err s) m

abbrev pub outcome_of : Plan → Result ⊤ Stop
outcome_of p = stop_in p

abbrev pub concluded : ℕ → Plan → Machine → Ending
concluded base p m = result (outcome_of p) (applied base p m)

-- a word that reads as no instruction goes no further than 12 to 14
abbrev pub decided : Result Instr Unread → Env → Machine → Ending
decided (Err u) e m = stops (stop.Unread u) m
decided (Ok i) e m = concluded e.board.work (plan_of e m i) m

abbrev pub attempted : Option ℕ → Env → Machine → Ending
attempted (Some w) e m = decided (read_of w) e m
attempted None e m = stops stop.NoWord m

unfoldable pub step_of : List ℕ → Env → Machine → Ending
step_of program e m = attempted (fetched program e.board.program m.ctl.pc) e m

-- the code's answer for a result, and what the lent memory holds then
pub record StepIs (s : Ending) (r : Stepped) (v g w : List ℕ) : Type 0 where
  pub outcome : r.outcome ≡ s.outcome
  pub control : r.control ≡ s.after.ctl
  pub vec : v ≡ s.after.vec
  pub gen : g ≡ s.after.gen
  pub work : w ≡ s.after.work

abbrev pub stopped_with : Stop → Control → Stepped
stopped_with s c = record { outcome = Err s; control = c }

abbrev pub unread_stop : Result Instr Unread → Stop
unread_stop (Err u) = stop.Unread u
unread_stop (Ok i) = stop.NoWord

-- a step with its set-up limits: a refusal changes nothing
pub record Whole : Type 0 where
  pub answer : Result (Result ⊤ Stop) Refusal
  pub after : Machine

abbrev pub whole : Result ⊤ Refusal → Ending → Machine → Whole
whole (Ok tt) s m = record { answer = Ok s.outcome; after = s.after }
whole (Err r) s m = record { answer = Err r; after = m }

abbrev pub whole_step : List ℕ → Env → Machine → Whole
whole_step program e m = whole (refusal program e m) (step_of program e m) m

abbrev pub ran_as : Stepped → Answered
ran_as s = record { answer = Ok s.outcome; control = s.control }

pub record WholeIs (s : Whole) (r : Answered) (v g w : List ℕ) : Type 0 where
  pub answer : answer_number r.answer ≡ answer_number s.answer
  pub carried : answer_carried r.answer ≡ answer_carried s.answer
  pub control : r.control ≡ s.after.ctl
  pub vec : v ≡ s.after.vec
  pub gen : g ≡ s.after.gen
  pub work : w ≡ s.after.work
