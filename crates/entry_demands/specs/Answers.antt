-- What `msa_step` and `msa_run` answer: the number of the first row that applies of document 01's two tables (`Limits`
-- and `Reasons` of the crate `demands`), and with 17 the address that is missing (`Missing` there). The control block
-- counts as the layout reads it; one outside the layout is read as one that row 5 applies to.
use Rattle.std.specs.Prelude.{◌++◌, ℕ}
use Rattle.memory.specs.Bytes.{AreBytes}
use Rattle.entry.specs.declared.MsaStepped.{MsaStepped}
use Rattle.entry.specs.declared.MsaEnded.{MsaEnded}
use Rattle.demands.specs.Limits.{limits}
use Rattle.demands.specs.Missing.{Names}
use Rattle.demands.specs.Reasons.{stops, Answers}
use Rattle.demands.specs.Tables.{First}
use Rattle.entry_demands.specs.Calls.{Given, Lent, env_of, machine_of, StepCall, Call}

abbrev pub StepCalled : Type 1
StepCalled =
    (g : Given) (x y : Lent) (r : MsaStepped) → StepCall g x r y
    → First (limits g.program (env_of g x) (machine_of x) ++ stops g.program (env_of g x) (machine_of x)) r.reason

abbrev pub RunCalled : Type 1
RunCalled =
    (g : Given) (budget : ℕ) (x y : Lent) (r : MsaEnded) → AreBytes x.control → Call g budget x r y
    → Answers g.program (env_of g x) budget (machine_of x) r.reason r.count (machine_of y)

abbrev pub StepMissingCalled : Type 0
StepMissingCalled =
    (g : Given) (x y : Lent) (r : MsaStepped) → StepCall g x r y
    → Names g.program (env_of g x) (machine_of x) r.reason r.missing

abbrev pub RunMissingCalled : Type 0
RunMissingCalled =
    (g : Given) (budget : ℕ) (x y : Lent) (r : MsaEnded) → AreBytes x.control → Call g budget x r y
    → Names g.program (env_of g x) (machine_of y) r.reason r.missing
