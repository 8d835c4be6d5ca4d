-- One answer: what a public function promises leaves room for one answer, and for one later content of the lent memory.
use Rattle.std.specs.Prelude.{◌≡◌, List, ℕ, Result, Option, ⊤}
use Rattle.element.specs.Elements.{Element}
use Rattle.memory.specs.declared.Register.{Register}
use Rattle.memory.specs.Value.{Holds}
use Rattle.state.specs.declared.setup.Refusal.{Refusal}
use Rattle.state.specs.Fetch.{Fetches}
use Rattle.state.specs.Setup.{Checks}
use Rattle.machine.specs.declared.run.Ended.{Ended}
use Rattle.machine.specs.declared.step.Answered.{Answered}
use Rattle.machine.specs.declared.step.Stepped.{Stepped}
use Rattle.machine.specs.declared.why.Cause.{Cause}
use Rattle.machine.specs.Run.{Run, RunIs}
use Rattle.machine.specs.Step.{Ending, StepIs, Whole, WholeIs}
use Rattle.machine.specs.Why.{WhyIs}

-- `act::act`, and `advance`, inside a step and a run
abbrev pub OneAdvance : Type 0
OneAdvance =
    (s : Ending) (r r' : Stepped) (v v' g g' w w' : List ℕ) → StepIs s r v g w → StepIs s r' v' g' w'
    → (r ≡ r') × (v ≡ v') × (g ≡ g') × (w ≡ w')

-- `step::step`
abbrev pub OneStep : Type 0
OneStep =
    (s : Whole) (r r' : Answered) (v v' g g' w w' : List ℕ) → WholeIs s r v g w → WholeIs s r' v' g' w'
    → (r ≡ r') × (v ≡ v') × (g ≡ g') × (w ≡ w')

-- `run::run`
abbrev pub OneRun : Type 0
OneRun = (s : Run) (r r' : Ended) (v v' g g' w w' : List ℕ) → RunIs s r v g w → RunIs s r' v' g' w'
    → (r ≡ r') × (v ≡ v') × (g ≡ g') × (w ≡ w')

-- `why::why`
abbrev pub OneWhy : Type 0
OneWhy = (s r r' : Cause) → WhyIs s r → WhyIs s r' → r ≡ r'

-- every other public function: its contract is an equation between its answer, or a lent buffer at exit, and a
-- definition (`tools/pages.py` holds each of them to that form)
abbrev pub OneValue : Type 1
OneValue = (A : Type 0) (d r r' : A) → r ≡ d → r' ≡ d → r ≡ r'

-- or a record that has it as a field: an element, a register; or one that says document 01's number and values of it:
-- what the set-up limits and fetching say (reading and writing: crate `words`, `read-unique`, `write-unique`; a text
-- and a line: `listing`, `put-unique`, `line-unique`)
abbrev pub OneElement : Type 0
OneElement = (n x r r' : ℕ) → Element n r x → Element n r' x → r ≡ r'

abbrev pub OneRegister : Type 0
OneRegister = (x : ℕ) (r r' : Register) → Holds r x → Holds r' x → r ≡ r'

abbrev pub OneSetup : Type 0
OneSetup = (s r r' : Result ⊤ Refusal) → Checks s r → Checks s r' → r ≡ r'

abbrev pub OneFetched : Type 0
OneFetched = (p : List ℕ) (base pc : ℕ) (r r' : Option ℕ) → Fetches p base pc r → Fetches p base pc r' → r ≡ r'
