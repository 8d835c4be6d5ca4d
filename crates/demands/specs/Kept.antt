-- The set-up limits are kept. A finished step of an accepted machine leaves an accepted one: the lengths are what they were, general register 0 is
-- zero, the program counter and a taken target are multiples of 4, and MSACSR has no bit outside 0107FFFF hex. So it is after any number of them.
use Rattle.std.specs.Prelude.{◌≡◌, List, ℕ, Ok}
use Rattle.state.specs.Machine.{Env, Machine}
use Rattle.state.specs.Setup.{refusal}
use Rattle.machine.specs.Step.{step_of}
use Rattle.demands.specs.Demand1.{Steps}

abbrev pub StaysAccepted : Type 0
StaysAccepted =
    (p : List ℕ) (e : Env) (m : Machine) → refusal p e m ≡ Ok tt → (step_of p e m).outcome ≡ Ok tt
    → refusal p e (step_of p e m).after ≡ Ok tt

abbrev pub StepsAccepted : Type 0
StepsAccepted =
    (p : List ℕ) (e : Env) (n : ℕ) (m m' : Machine) → Steps p e n m m' → refusal p e m ≡ Ok tt → refusal p e m' ≡ Ok tt
