-- The destination of an instruction after a finished step, whole and element by element.
-- Assumes nothing.
use mathlib.Core.Path.{◌≡◌, refl, sym, ap, ◌∙◌}
use mathlib.Core.Bool.{Bool, true, false}
use mathlib.Core.List.{List}
use Prim.Native.Nat.{ℕ, ◌+◌, ◌*◌, ◌/◌, ◌^◌, ◌<◌}
use native.Mathlib.Nat.{mod-eq_of_lt}
use native.Mathlib.Omega.{arith}
use lib.ListN.{get_or}
use Rattle.isa.specs.declared.Instr.{Instr}
use Rattle.std.specs.Prelude.{Ok, Some}
use Rattle.isa.specs.declared.Vreg.{Vreg}
use Rattle.isa.specs.declared.Width.{Width}
use Rattle.isa.specs.Widths.{bits}
use Rattle.memory.specs.File.{register_at, with_register}
use Rattle.memory.specs.Value.{value, register}
use Rattle.memory.proofs.Files.{with_register-same}
use Rattle.memory.proofs.Values.{value-exact}
use Rattle.lanes.specs.declared.Lane.{Lane}
use Rattle.lanes.specs.Lane.{lane_of}
use Rattle.each.specs.Lanes.{each_lane}
use Rattle.each.proofs.LaneLaws.{each_lane-below, each_lane-element}
use Rattle.vectors.specs.Register.{element}
use Rattle.reading.specs.Reading.{read_of}
use Rattle.plan.specs.declared.Plan.{Plan}
use Rattle.plan.specs.declared.planned.Kind.TheVariants.{Switched}
use Rattle.plan.specs.Plan.{plan_of, executed, kind_of, writes, switched_early, unless}
use Rattle.state.specs.Fetch.{fetched}
use Rattle.state.specs.Machine.{Env, Machine}
use Rattle.state.specs.Setup.{refusal}
use Rattle.state.proofs.SetupLaws.{accepted}
use Rattle.machine.specs.Step.{Ending, step_of, concluded, outcome_of}
use Rattle.demands.specs.Demand2.{Meant}
use Rattle.demands.specs.Lanes.{lane_at}
use Rattle.demands.proofs.Demand2.{meant-there}
use Rattle.demands.proofs.Written.{register-byte}

-- a finished step was not switched off
pub by-switch : (q : Plan) (on : Bool) → outcome_of (unless (switched_early on) q) ≡ Ok tt
    → unless (switched_early on) q ≡ q
by-switch q true h = refl
by-switch q false h = let z : ◌≡◌ {A = ℕ} 0 1 = cc in absurd (omega arith)

-- an instruction that 16 concerns, and that writes the number made to wd
module _ (instruction : Instr) (wd : Vreg) (made : ℕ) (p : List ℕ) (e : Env) (m : Machine) (w : ℕ)
    (ok : refusal p e m ≡ Ok tt)
    (there : fetched p e.board.program m.ctl.pc ≡ Some w)
    (reads : read_of w ≡ Ok instruction)
    (done : (step_of p e m).outcome ≡ Ok tt)
    (kind : kind_of instruction ≡ Switched)
    (makes : executed e m instruction ≡ writes wd made) where
  step_is : step_of p e m ≡ concluded e.board.work (plan_of e m instruction) m
  unfolding step_of
  step_is = rw (there, reads)

  abbrev meant : Meant p e m
  meant =
      record {
        word = w;
        instruction = instruction;
        there = there;
        reads = reads;
        finishes = sym (ap (λ (r : Ending). r.outcome) step_is) ∙ done;
        after = ap (λ (r : Ending). r.after) step_is;
      }

  shape : plan_of e m instruction ≡ unless (switched_early m.ctl.on) (writes wd made)
  unfolding plan_of
  shape = rw (kind, makes)

  planned : plan_of e m instruction ≡ writes wd made
  planned = shape ∙ by-switch (writes wd made) m.ctl.on (rw shape at meant.finishes)

  pub register-after : made < 2 ^ 128 → register_at (step_of p e m).after.vec wd ≡ made
  register-after h =
      let small : wd.0 < 32 = rw planned at (meant-there p e m meant) in
      rw (meant.after, planned)
      (with_register-same m.vec wd (value (register made)) (accepted p e m ok).vectors small
      ∙ rw (value-exact h) (mod-eq_of_lt h))

  pub byte-after : made < 2 ^ 128 → (b : ℕ) → b < 16
      → get_or (step_of p e m).after.vec (16 * wd.0 + b) 0 ≡ element 8 made b
  unfolding with_register
  byte-after h b k =
      let small : wd.0 < 32 = rw planned at (meant-there p e m meant) in
      rw (meant.after, planned)
      (register-byte m.vec (16 * wd.0) made (omega (arith, (accepted p e m ok).vectors)) h b k)

  pub lane-after : (l : Lane) (df : Width) (d s t : ℕ) → made ≡ each_lane l (bits df) d s t → (i : ℕ) → i < 128 / bits df
      → lane_at df (step_of p e m).after.vec wd i
      ≡ lane_of l (bits df) (element (bits df) d i) (element (bits df) s i) (element (bits df) t i)
  lane-after l df d s t is i h =
      let lanes : made < 2 ^ 128 = rw is (each_lane-below l df d s t) in
      rw (register-after lanes, is) (each_lane-element l df d s t i h)
