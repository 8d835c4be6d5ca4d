-- A call of the C entry: what it is lent, what it answers, and what it leaves, by its contract.
use Rattle.std.specs.Prelude.{List, ℕ}
use Rattle.state.specs.Machine.{Env, Machine, env, machine}
use Rattle.machine.specs.Run.{whole_run}
use Rattle.machine.specs.Step.{whole_step}
use Rattle.entry.specs.declared.MsaStepped.{MsaStepped}
use Rattle.entry.specs.declared.MsaEnded.{MsaEnded}
use Rattle.entry.specs.Block.{decoded, ordered}
use Rattle.entry.specs.Entry.{board, StepsTo, RunsTo}

-- lent for reading: program and table; and where they and the work window begin
pub record Given : Type 0 where
  pub program : List ℕ
  pub program_base : ℕ
  pub table : List ℕ
  pub table_base : ℕ
  pub work_base : ℕ

-- lent for writing: vector registers, general registers, work window, control block
pub record Lent : Type 0 where
  pub vec : List ℕ
  pub gen : List ℕ
  pub work : List ℕ
  pub control : List ℕ

-- what no step changes: of what is given, and of the control block the byte order
abbrev pub env_of : Given → Lent → Env
env_of g x = env (board (ordered x.control) g.program_base g.table_base g.work_base) g.table

-- the machine that the lent bytes hold
abbrev pub machine_of : Lent → Machine
machine_of x = machine x.vec x.gen x.work (decoded x.control)

-- a call of `msa_step` on the lent bytes x that answers r and leaves y
abbrev pub StepCall : Given → Lent → MsaStepped → Lent → Type 0
StepCall g x r y =
    StepsTo (whole_step g.program (env_of g x) (machine_of x)) r y.vec y.gen y.work x.control y.control

-- the same of `msa_run`
abbrev pub Call : Given → ℕ → Lent → MsaEnded → Lent → Type 0
Call g budget x r y =
    RunsTo (whole_run g.program (env_of g x) budget (machine_of x)) r y.vec y.gen y.work x.control
    y.control
