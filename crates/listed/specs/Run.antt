-- A run from a list of read instructions: the plain engine's run, and the list with the program's entries; 51 where
-- the list has fewer entries than the program has words.
use Rattle.std.specs.Prelude.{◌≡◌, ℕ, ◌/◌, Bool, true, false, List, length, is_none, nat_lt, Ok, Err, Some, None, Result, Option, ⊤}
use Rattle.entries.specs.Listed.{listed}
use Rattle.machine.specs.declared.run.Ended.{Ended}
use Rattle.machine.specs.declared.run.Reason.TheVariants as reason
use Rattle.machine.specs.Run.{Run, RunIs, ended, runs}
use Rattle.state.specs.declared.setup.Refusal.{Refusal}
use Rattle.state.specs.declared.control.Control.{Control}
use Rattle.state.specs.Machine.{Env, Machine}
use Rattle.state.specs.Setup.{refusal}

-- whether 51 is the answer, and where it is not, the run; and the list after it
pub record Listing : Type 0 where
  pub short : Bool
  pub run : Run
  pub list : List ℕ

-- 51 changes nothing
abbrev pub unless_short : Bool → List ℕ → Env → ℕ → Machine → List ℕ → Listing
unless_short true program e budget m list = record { short = true; run = ended reason.Spent m; list = list }
unless_short false program e budget m list =
    record { short = false; run = runs program e budget m; list = listed program list (length program / 4) }

abbrev pub accepted_run : List ℕ → Env → ℕ → Machine → List ℕ → Listing
accepted_run program e budget m list =
    unless_short (nat_lt (length list) (length program / 4)) program e budget m list

-- 51 comes after 1 to 5
abbrev pub after_limits : Result ⊤ Refusal → List ℕ → Env → ℕ → Machine → List ℕ → Listing
after_limits (Ok tt) program e budget m list = accepted_run program e budget m list
after_limits (Err x) program e budget m list =
    record { short = false; run = ended (reason.Refused x) m; list = list }

abbrev pub listed_run : List ℕ → Env → ℕ → Machine → List ℕ → Listing
listed_run program e budget m list = after_limits (refusal program e m) program e budget m list

-- how a run ended, and with 51, where there is none, a run of no instruction
abbrev pub end_in : Control → Option Ended → Ended
end_in c (Some e) = e
end_in c None = record { reason = reason.Spent; count = 0; control = c }

-- the code's answer, none with 51, and what the lent memory holds then
pub record ListedIs (s : Listing) (r : Option Ended) (v g w l : List ℕ) : Type 0 where
  pub short : is_none r ≡ s.short
  pub ended : RunIs s.run (end_in s.run.after.ctl r) v g w
  pub list : l ≡ s.list
