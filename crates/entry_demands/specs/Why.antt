-- What `msa_why` answers (request 6/12): the first row that applies of document 01's two tables, with the word and the
-- fact behind it, and of which kind the fact is; the number that `msa_step` answers on the same bytes, and with 17 its
-- missing address; and after a run that did not spend its budget, the run's.
use Rattle.std.specs.Prelude.{◌≡◌, ◌++◌, ℕ, ◌<◌}
use Rattle.memory.specs.Bytes.{AreBytes}
use Rattle.machine.specs.Why.{why_of}
use Rattle.entry.specs.declared.MsaStepped.{MsaStepped}
use Rattle.entry.specs.declared.MsaEnded.{MsaEnded}
use Rattle.entry.specs.declared.MsaWhy.{MsaWhy}
use Rattle.entry.specs.Why.{explained}
use Rattle.demands.specs.Limits.{limits}
use Rattle.demands.specs.Reasons.{stops}
use Rattle.demands.specs.Tables.{Says, Not}
use Rattle.entry_demands.specs.Calls.{Given, Lent, env_of, machine_of, StepCall, Call}

-- a call of `msa_why` on the lent bytes x that answers u; it is lent them for reading
abbrev pub WhyCall : Given → Lent → MsaWhy → Type 0
WhyCall g x u = u ≡ explained (why_of g.program (env_of g x) (machine_of x))

-- the kind of the fact behind a number: 1 the counter, 2 the word, 3 the switch, 4 an address, 5 trap bits, and 0 where
-- there is none
pub data KindIs : ℕ → ℕ → Type 0 where
  nothing : (n : ℕ) → n < 11 → KindIs n 0
  counter : KindIs 11 1
  word : (n : ℕ) → 11 < n → n < 16 → KindIs n 2
  switch : KindIs 16 3
  address : (n : ℕ) → 16 < n → n < 19 → KindIs n 4
  bits : KindIs 19 5

-- the call tells the first row that applies
pub record Tells (g : Given) (x : Lent) (u : MsaWhy) : Type 1 where
  pub says :
      Says (limits g.program (env_of g x) (machine_of x) ++ stops g.program (env_of g x) (machine_of x)) u.number
      u.word u.fact
  pub kind : KindIs u.number u.kind

abbrev pub WhyCalled : Type 1
WhyCalled = (g : Given) (x : Lent) (u : MsaWhy) → WhyCall g x u → Tells g x u

-- the number n with the missing address x
pub record Agrees (u : MsaWhy) (n x : ℕ) : Type 0 where
  pub number : u.number ≡ n
  pub missing : n ≡ 17 → u.fact ≡ x

-- beside a step on the same bytes
abbrev pub WhyOfStep : Type 0
WhyOfStep =
    (g : Given) (x y : Lent) (r : MsaStepped) (u : MsaWhy) → StepCall g x r y → WhyCall g x u
    → Agrees u r.reason r.missing

-- on the bytes that a run has left which did not spend its budget
abbrev pub WhyOfRun : Type 0
WhyOfRun =
    (g : Given) (budget : ℕ) (x y : Lent) (r : MsaEnded) (u : MsaWhy) → AreBytes x.control
    → Call g budget x r y → Not (r.reason ≡ 20) → WhyCall g y u
    → Agrees u r.reason r.missing
