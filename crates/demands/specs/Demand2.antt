-- Demand 2. Where a step is finished, a word stands at the program counter, it reads as an instruction whose plan is no
-- stop, and the machine after the step is that plan done to the machine before. What no step changes is said in
-- `Changes`.
use Rattle.std.specs.Prelude.{◌≡◌, List, ℕ, Ok, Some}
use Rattle.isa.specs.declared.Instr.{Instr}
use Rattle.reading.specs.Reading.{read_of}
use Rattle.plan.specs.Plan.{plan_of}
use Rattle.state.specs.Fetch.{fetched}
use Rattle.state.specs.Machine.{Env, Machine}
use Rattle.machine.specs.Effect.{applied}
use Rattle.machine.specs.Step.{step_of, outcome_of}

pub record Meant (p : List ℕ) (e : Env) (m : Machine) : Type 0 where
  pub word : ℕ
  pub instruction : Instr
  pub there : fetched p e.board.program m.ctl.pc ≡ Some word
  pub reads : read_of word ≡ Ok instruction
  pub finishes : outcome_of (plan_of e m instruction) ≡ Ok tt
  pub after : (step_of p e m).after ≡ applied e.board.work (plan_of e m instruction) m

abbrev pub FinishedStep : Type 0
FinishedStep = (p : List ℕ) (e : Env) (m : Machine) → (step_of p e m).outcome ≡ Ok tt → Meant p e m
