-- Two runs as one, by induction on the first budget. The second checks the set-up again, and passes.
-- Assumes nothing.
use mathlib.Core.Path.{◌≡◌, refl, sym, ap, ◌∙◌}
use mathlib.Core.List.{List}
use Prim.Native.Nat.{ℕ, zero, suc, ◌+◌}
use native.Mathlib.Nat.{zero-add}
use native.Mathlib.Omega.{arith}
use Rattle.state.specs.Machine.{Env, Machine}
use Rattle.machine.specs.declared.run.Reason.TheVariants as reason
use Rattle.std.specs.Prelude.{Ok, Err, Result, ⊤}
use Rattle.state.specs.declared.stops.Stop.{Stop}
use Rattle.machine.specs.Run.{Run, runs, adding}
use Rattle.machine.specs.Step.{step_of}
use Rattle.machine.proofs.RunLaws.{runs-finished, runs-stopped}
use Rattle.demands.specs.Demand1.{GoesOn}
use Rattle.demands.proofs.Demand1.{accepted-run}
use Rattle.demands.proofs.Kept.{steps-accepted}

-- a run with another count
abbrev counting : Run → ℕ → Run
counting r n = record { reason = r.reason; count = n; after = r.after }

module _ (p : List ℕ) (e : Env) (k : ℕ) where
  abbrev On : ℕ → Machine → Type 0
  On n m = (runs p e n m).reason ≡ reason.Spent → runs p e (n + k) m ≡ adding n (runs p e k (runs p e n m).after)

  none-on : (m : Machine) → On 0 m
  unfolding runs
  none-on m s = ap (λ n. runs p e n m) (zero-add k) ∙ ap (counting (runs p e k m)) (sym (zero-add (runs p e k m).count))

  runs_on : (n : ℕ) (m : Machine) → On n m
  runs_on zero m = none-on m
  runs_on (suc n) m = go (step_of p e m).outcome refl (runs_on n (step_of p e m).after)
    where
      go : (o : Result ⊤ Stop) → (step_of p e m).outcome ≡ o → On n (step_of p e m).after → On (suc n) m
      go (Ok tt) h rest s =
          let f = runs-finished p e m n h in
          let r = runs p e k (runs p e n (step_of p e m).after).after in
          let budget : suc n + k ≡ suc (n + k) = omega arith in
          let count : 1 + (n + r.count) ≡ suc n + r.count = omega arith in
          rw f (ap (λ x. runs p e x m) budget ∙ runs-finished p e m (n + k) h ∙ ap (adding 1) (rest (rw f at s)) ∙ ap (counting r) count)
      go (Err x) h rest s = let t = rw (runs-stopped p e m n x h) at s in let z : ◌≡◌ {A = ℕ} 0 1 = cc in absurd (omega arith)

pub goes_on : GoesOn
goes_on p e n k m a s =
    let b = rw a at (steps-accepted p e _ m _ (accepted-run p e n m a).steps a) in
    rw (a, b) (runs_on p e k n m (rw a at s))
