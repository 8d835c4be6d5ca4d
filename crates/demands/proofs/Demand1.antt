-- Demand 1, by induction on the budget.
-- Assumes nothing.
use mathlib.Core.Path.{◌≡◌, refl}
use mathlib.Core.List.{List}
use Prim.Native.Nat.{ℕ, zero, suc, ◌+◌, ◌≤◌, ◌<◌}
use native.Mathlib.Omega.{arith}
use Rattle.state.specs.Machine.{Env, Machine}
use Rattle.machine.specs.declared.run.Reason.{Reason}
use Rattle.machine.specs.declared.run.Reason.TheVariants as reason
use Rattle.std.specs.Prelude.{Ok, Err, Result, ⊤}
use Rattle.state.specs.declared.stops.Stop.{Stop}
use Rattle.machine.specs.Run.{Run, runs, adding, ended}
use Rattle.machine.specs.Step.{step_of}
use Rattle.machine.proofs.RunLaws as laws
use Rattle.demands.specs.Demand1.{Steps, none, more, Why, spent, stopped, Ends, AcceptedRun, RefusedRun, NoBudget, StopKeeps}

-- one step more before a run, in its reason and in its steps
later : {p : List ℕ} {e : Env} {budget count : ℕ} {m : Machine} {r : Reason} → Why p e budget count m r → Why p e (suc budget) (1 + count) m r
later (spent h) = spent (omega arith)
later (stopped s h k) = stopped s (omega arith) k

counted : {p : List ℕ} {e : Env} {n : ℕ} {m m' : Machine} → Steps p e (suc n) m m' → Steps p e (1 + n) m m'
counted {p} {e} {n} {m} {m'} s = let k : suc n ≡ 1 + n = omega arith in rw k at s

runs-end : (p : List ℕ) (e : Env) (budget : ℕ) (m : Machine) → Ends p e budget m (runs p e budget m)
unfolding runs
runs-end p e zero m = record { within = omega arith; steps = none; why = spent refl }
runs-end p e (suc budget) m = go (step_of p e m).outcome refl (runs-end p e budget (step_of p e m).after)
  where
    go : (o : Result ⊤ Stop) → (step_of p e m).outcome ≡ o → Ends p e budget (step_of p e m).after (runs p e budget (step_of p e m).after)
        → Ends p e (suc budget) m (runs p e (suc budget) m)
    go (Ok tt) h rest =
        rw (laws.runs-finished p e m budget h) (record { within = omega (arith, rest.within); steps = counted (more h rest.steps); why = later rest.why })
    go (Err s) h rest = rw (laws.runs-stopped p e m budget s h) (record { within = omega arith; steps = none; why = stopped s (omega arith) h })

pub accepted-run : AcceptedRun
accepted-run p e budget m h = rw h (runs-end p e budget m)

pub refused-run : RefusedRun
refused-run p e budget m r h = rw h

pub no-budget : NoBudget
unfolding runs
no-budget p e m h = rw h

pub stop-keeps : StopKeeps
stop-keeps = laws.stop-keeps
