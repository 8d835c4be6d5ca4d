-- Demand 2, by the way that the step went, and by the plan: what it names is there.
-- Assumes nothing.
use mathlib.Core.Path.{◌≡◌, refl, ◌∙◌}
use mathlib.Core.List.{List}
use Prim.Native.Nat.{ℕ, ◌%◌, ◌^◌}
use native.Mathlib.Nat.{mod-lt}
use native.Mathlib.Omega.{arith}
use lib.ListN.{length}
use lib.Pow.{pow_pos}
use Rattle.isa.specs.declared.Instr.{Instr}
use Rattle.std.specs.Prelude.{Ok, Err, Some, None, Result, Option, ⊤}
use Rattle.isa.specs.declared.Unread.{Unread}
use Rattle.state.specs.declared.setup.Refusal.{Refusal}
use Rattle.plan.specs.Plan.{plan_of}
use Rattle.plan.specs.There.{There}
use Rattle.plan.proofs.PlanLaws.{planned-there}
use Rattle.reading.specs.Reading.{read_of}
use Rattle.state.specs.Fetch.{fetched}
use Rattle.state.specs.Machine.{Env, Machine}
use Rattle.state.specs.Setup.{refusal}
use Rattle.words.specs.Formed.{Formed}
use Rattle.words.proofs.Answers.{read-formed}
use Rattle.machine.specs.Step.{step_of, attempted, decided, whole, whole_step}
use Rattle.demands.specs.Demand2.{Meant, FinishedStep}
use Rattle.demands.proofs.ReadLow.{read_low}

pub finished-step : FinishedStep
unfolding step_of
finished-step p e m done = by_word (fetched p e.board.program m.ctl.pc) refl done
  where
    by-reading : (w : ℕ) (r : Result Instr Unread) → fetched p e.board.program m.ctl.pc ≡ Some w → read_of w ≡ r
        → (decided r e m).outcome ≡ Ok tt → Meant p e m
    by-reading w (Err u) f g o = let z : ◌≡◌ {A = ℕ} 0 1 = cc in absurd (omega arith)
    by-reading w (Ok i) f g o = record { word = w; instruction = i; there = f; reads = g; finishes = o; after = rw (f, g) }

    by_word : (f : Option ℕ) → fetched p e.board.program m.ctl.pc ≡ f → (attempted f e m).outcome ≡ Ok tt
        → Meant p e m
    by_word (Some w) f o = by-reading w (read_of w) f refl o
    by_word None f o = let z : ◌≡◌ {A = ℕ} 0 1 = cc in absurd (omega arith)

-- what a word reads as is formed
pub formed : (w : ℕ) (i : Instr) → read_of w ≡ Ok i → Formed i
formed w i h = read-formed (w % 2 ^ 32) i (mod-lt w (pow_pos 32)) (read_low w ∙ h)

-- what the plan of a finished step names is there
pub meant-there : (p : List ℕ) (e : Env) (m : Machine) (s : Meant p e m)
    → There e.board.work (length m.work) (plan_of e m s.instruction)
meant-there p e m s = planned-there e m s.instruction (formed s.word s.instruction s.reads)

-- a step with its set-up limits that is finished is of an accepted set-up, and is the step of the definition
pub record Ends (p : List ℕ) (e : Env) (m : Machine) : Type 0 where
  pub ok : refusal p e m ≡ Ok tt
  pub done : (step_of p e m).outcome ≡ Ok tt
  pub after : (whole_step p e m).after ≡ (step_of p e m).after

pub ends : (p : List ℕ) (e : Env) (m : Machine) → (whole_step p e m).answer ≡ Ok (Ok tt) → Ends p e m
ends p e m f = go (refusal p e m) refl f
  where
    go : (s : Result ⊤ Refusal) → refusal p e m ≡ s → (whole s (step_of p e m) m).answer ≡ Ok (Ok tt) → Ends p e m
    go (Ok tt) q h = record { ok = q; done = cc; after = rw q }
    go (Err r) q h = let z : ◌≡◌ {A = ℕ} 0 1 = cc in absurd (omega arith)
