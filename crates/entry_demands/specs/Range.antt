-- Every control block has room in the layout's bytes: the one that lent bytes are read as, and each that steps leave.
-- So the bytes that a call has written are read by the next as the block that it wrote (`RoundTrip` of the C entry).
use Rattle.std.specs.Prelude.{◌≡◌, List, ℕ, Ok}
use Rattle.memory.specs.Bytes.{AreBytes}
use Rattle.state.specs.Machine.{Env, Machine}
use Rattle.machine.specs.Run.{whole_run}
use Rattle.machine.specs.Step.{step_of}
use Rattle.entry.specs.Block.{decoded}
use Rattle.entry.specs.Layout.{InRange}
use Rattle.demands.specs.Demand1.{Steps}

abbrev pub DecodedInRange : Type 0
DecodedInRange = (b : List ℕ) → AreBytes b → InRange (decoded b)

abbrev pub StepInRange : Type 0
StepInRange =
    (p : List ℕ) (e : Env) (m : Machine) → (step_of p e m).outcome ≡ Ok tt → InRange m.ctl
    → InRange (step_of p e m).after.ctl

abbrev pub StepsInRange : Type 0
StepsInRange = (p : List ℕ) (e : Env) (n : ℕ) (m m' : Machine) → Steps p e n m m' → InRange m.ctl → InRange m'.ctl

abbrev pub RunInRange : Type 0
RunInRange =
    (p : List ℕ) (e : Env) (budget : ℕ) (m : Machine) → InRange m.ctl → InRange (whole_run p e budget m).after.ctl
