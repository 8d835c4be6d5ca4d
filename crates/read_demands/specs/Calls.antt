-- A call of the second engine's C entry: what it is lent, what it answers, and what it leaves, by its contract.
use Rattle.std.specs.Prelude.{List, ℕ}
use Rattle.entry.specs.declared.MsaEnded.{MsaEnded}
use Rattle.listed.specs.Run.{listed_run}
use Rattle.entry_read.specs.Entry.{ReadsTo}
use Rattle.entry_demands.specs.Calls.{Given, Lent, env_of, machine_of}

-- a call of `msa_run_read` on the lent bytes x and the lent list that answers r and leaves y and list'
abbrev pub ReadCall : Given → ℕ → Lent → List ℕ → MsaEnded → Lent → List ℕ → Type 0
ReadCall g budget x list r y list' =
    ReadsTo (listed_run g.program (env_of g x) budget (machine_of x) list) r y.vec y.gen y.work x.control
    y.control list'
