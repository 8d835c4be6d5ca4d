-- `msa_budget`, and then `msa_run` (request 10/12). The counter is the block's first eight bytes, and its slot mark,
-- the bytes 20 and 21, is clear. Where `msa_budget` answers a number b other than 0, a run with budget b or more finishes
-- fewer than b instructions and does not answer 20: it is refused, or stops by itself.
use Rattle.std.specs.Prelude.{◌≡◌, ℕ, ◌≤◌, ◌<◌}
use Rattle.budget.specs.Budget.{budget_of}
use Rattle.entry.specs.declared.MsaEnded.{MsaEnded}
use Rattle.demands.specs.Tables.{Not, little}
use Rattle.entry_demands.specs.Calls.{Given, Lent, Call}

-- a call of `msa_budget` for the program that is given and this counter that answers b
abbrev pub BudgetCall : Given → ℕ → ℕ → Type 0
BudgetCall g counter b = b ≡ budget_of g.program g.program_base counter

abbrev pub BudgetCalled : Type 0
BudgetCalled =
    (g : Given) (b budget : ℕ) (x y : Lent) (r : MsaEnded)
    → BudgetCall g (little x.control 0 8) b → 0 < b → b ≤ budget → little x.control 20 2 ≡ 0
    → Call g budget x r y
    → (r.count < b) × Not (r.reason ≡ 20)
