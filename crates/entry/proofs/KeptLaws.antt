-- Where no instruction is finished no lent byte is changed. Assumes nothing.
use mathlib.Core.Path.{◌≡◌, refl, sym, ap, ◌∙◌}
use mathlib.Core.Bool.{cond}
use mathlib.Core.List.{List}
use Prim.Native.Nat.{ℕ, zero, suc}
use native.Mathlib.Omega.{arith}
use borrow.Author.Tests.{ne_eqb}
use lib.Dec.{ltb}
use Rattle.std.specs.Prelude.{Ok, Err, Result, ⊤}
use Rattle.state.specs.declared.setup.Refusal.{Refusal}
use Rattle.state.specs.declared.stops.Stop.{Stop}
use Rattle.state.specs.Machine.{Env, Machine}
use Rattle.state.specs.Setup.{refusal}
use Rattle.machine.specs.Numbers.{outcome_number, answer_number}
use Rattle.machine.specs.Run.{runs, admitted, whole_run}
use Rattle.machine.specs.Step.{step_of, whole, whole_step}
use Rattle.machine.proofs.RunLaws.{stop-keeps, runs-finished, runs-stopped}
use Rattle.entry.specs.Block.{written}
use Rattle.entry.specs.Kept.{StepKeeps, RunKeeps}

module _ (p : List ℕ) (e : Env) (m : Machine) where
  step_kept : (outcome_number (step_of p e m).outcome ≡ 0 → ⊥) → (step_of p e m).after ≡ m
  step_kept n = go (step_of p e m).outcome refl
    where
      go : (o : Result ⊤ Stop) → (step_of p e m).outcome ≡ o → (step_of p e m).after ≡ m
      go (Ok tt) h = absurd (n (ap outcome_number h))
      go (Err s) h = stop-keeps p e m s h

  whole-kept : (q : Result ⊤ Refusal) → (answer_number (whole q (step_of p e m) m).answer ≡ 0 → ⊥) → (whole q (step_of p e m) m).after ≡ m
  whole-kept (Ok tt) n = step_kept n
  whole-kept (Err r) n = refl

  runs-kept : (budget : ℕ) → (runs p e budget m).count ≡ 0 → (runs p e budget m).after ≡ m
  unfolding runs
  runs-kept zero z = refl
  runs-kept (suc k) z = go (step_of p e m).outcome refl
    where
      go : (o : Result ⊤ Stop) → (step_of p e m).outcome ≡ o → (runs p e (suc k) m).after ≡ m
      go (Ok tt) h = absurd (omega (arith, ap (λ x. x.count) (runs-finished p e m k h)))
      go (Err s) h = ap (λ x. x.after) (runs-stopped p e m k s h)

  admitted-kept : (q : Result ⊤ Refusal) (budget : ℕ) → (admitted q (runs p e budget m) m).count ≡ 0 → (admitted q (runs p e budget m) m).after ≡ m
  admitted-kept (Ok tt) budget z = runs-kept budget z
  admitted-kept (Err r) budget z = refl

pub step_keeps : StepKeeps
step_keeps p e m r v g w b b' i n =
    let none : answer_number (whole_step p e m).answer ≡ 0 → ⊥ = λ z. n (i.reason ∙ z) in
    let kept = whole-kept p e m (refusal p e m) none in
    (i.vec ∙ ap (λ x. x.vec) kept, i.gen ∙ ap (λ x. x.gen) kept, i.work ∙ ap (λ x. x.work) kept, i.control ∙ ap (λ x. cond x (written (whole_step p e m).after.ctl b) b) (ne_eqb (answer_number (whole_step p e m).answer) 0 none))

pub run-keeps : RunKeeps
run-keeps p e budget m r v g w b b' i h =
    let none : (whole_run p e budget m).count ≡ 0 = sym i.count ∙ h in
    let kept = admitted-kept p e m (refusal p e m) budget none in
    (i.vec ∙ ap (λ x. x.vec) kept, i.gen ∙ ap (λ x. x.gen) kept, i.work ∙ ap (λ x. x.work) kept, i.control ∙ ap (λ n. cond (ltb 0 n) (written (whole_run p e budget m).after.ctl b) b) none)
