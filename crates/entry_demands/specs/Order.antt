-- No call changes the byte order (request 7/12): byte 23 of the control block is left as it was lent. So the order is
-- fixed for a run, and for the calls that go on with its block.
use Rattle.std.specs.Prelude.{◌≡◌, ℕ, get_or}
use Rattle.entry.specs.declared.MsaStepped.{MsaStepped}
use Rattle.entry.specs.declared.MsaEnded.{MsaEnded}
use Rattle.entry_demands.specs.Calls.{Given, Lent, StepCall, Call}

abbrev pub StepKeepsOrder : Type 0
StepKeepsOrder =
    (g : Given) (x y : Lent) (r : MsaStepped) → StepCall g x r y → get_or y.control 23 0 ≡ get_or x.control 23 0

abbrev pub RunKeepsOrder : Type 0
RunKeepsOrder =
    (g : Given) (budget : ℕ) (x y : Lent) (r : MsaEnded) → Call g budget x r y
    → get_or y.control 23 0 ≡ get_or x.control 23 0
