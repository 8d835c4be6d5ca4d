-- What `forward_budget` answers (request 10/12), by the program from base and the counter, and that it is enough: with
-- a clear slot mark and this budget or more, a run does not answer 20.
use Rattle.std.specs.Prelude.{◌≡◌, List, ℕ, ◌+◌, ◌-◌, ◌≤◌, ◌<◌, length}
use Rattle.budget.specs.Budget.{budget_of}
use Rattle.state.specs.declared.control.Mark.TheVariants.{Clear}
use Rattle.state.specs.Machine.{Env, Machine}
use Rattle.machine.specs.declared.run.Reason.TheVariants.{Spent}
use Rattle.machine.specs.Run.{whole_run}
use Rattle.demands.specs.AtCounter.{AtWord}
use Rattle.demands.specs.Forward.{words, Forward}
use Rattle.demands.specs.Limits.{Program}
use Rattle.demands.specs.Tables.{Not, Some}

-- the answer, each number where the request gives it
pub data Budget (p : List ℕ) (base counter : ℕ) : ℕ → Type 0 where
  refused : Program base (length p) → Budget p base counter 0
  nowhere : Not (Program base (length p)) → Not (Some (AtWord p base counter)) → Budget p base counter 1
  forward : (i : ℕ) → Not (Program base (length p)) → AtWord p base counter i → Forward p
      → Budget p base counter (words p - i + 1)
  backward : Not (Program base (length p)) → Some (AtWord p base counter) → Not (Forward p) → Budget p base counter 0

abbrev pub BudgetIs : Type 0
BudgetIs = (p : List ℕ) (base counter : ℕ) → Budget p base counter (budget_of p base counter)

-- where there is a budget b, a run with it or more finishes fewer than b instructions, and is not cut short
abbrev pub BudgetEnough : Type 0
BudgetEnough =
    (p : List ℕ) (e : Env) (m : Machine) (b budget : ℕ)
    → Budget p e.board.program m.ctl.pc b → 0 < b → b ≤ budget → m.ctl.mark ≡ Clear
    → ((whole_run p e budget m).count < b) × Not ((whole_run p e budget m).reason ≡ Spent)
