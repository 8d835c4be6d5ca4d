-- Every control block has room in the layout's bytes: a field's bytes spell a number that they can hold, and a plan
-- puts into a block MSACSR's bits that exist, or a target modulo 2^64. Assumes nothing.
use mathlib.Core.Path.{◌≡◌, refl}
use mathlib.Core.Bool.{Bool, true, false, cond, ◌&&◌}
use mathlib.Core.List.{List}
use Prim.Native.Nat.{ℕ, ◌+◌, ◌*◌, ◌^◌, ◌≤◌, ◌<◌}
use native.Mathlib.Omega.{arith}
use borrow.Author.Tests.{eqb-true}
use lib.Dec.{eqb, leb}
use lib.ListN.{length}
use Rattle.isa.specs.declared.Instr.{Instr}
use Rattle.memory.specs.Bytes.{part, AreBytes}
use Rattle.memory.proofs.Numbers.{number-below, part_bytes}
use Rattle.memory.proofs.Parts.{length_part}
use Rattle.element.proofs.Views.{wrap-below}
use Rattle.plan.specs.declared.Plan.{Plan}
use Rattle.plan.specs.declared.Plan.TheVariants as plan
use Rattle.plan.specs.Numbers.{target}
use Rattle.plan.specs.Plan.{plan_of, marked}
use Rattle.state.specs.declared.control.Control.{Control}
use Rattle.state.specs.declared.control.Mark.{Mark}
use Rattle.state.specs.declared.control.Mark.TheVariants.{Clear, NotTaken, Taken}
use Rattle.std.specs.Prelude.{Ok, Err, Result, ⊤}
use Rattle.state.specs.declared.setup.Refusal.{Refusal}
use Rattle.state.specs.Setup.{refusal}
use Rattle.machine.specs.Effect.{control_after, forwarded, pc_after}
use Rattle.machine.specs.Run.{whole_run}
use Rattle.entry.specs.Block.{field, byte, broken, block, by_mark, decoded, target_of}
use Rattle.entry.specs.Layout.{InRange}
use Rattle.demands.specs.AtCounter.{offset_of}
use Rattle.demands.specs.Demand1.{none, more}
use Rattle.demands.proofs.Demand1.{accepted-run, refused-run}
use Rattle.demands.proofs.Demand2.{finished-step}
use Rattle.demands.proofs.Kept.{Within, planned-within}
use Rattle.entry_demands.specs.Range.{DecodedInRange, StepInRange, StepsInRange, RunInRange}

-- bytes

broken-in-range : InRange broken
broken-in-range = record { pc = omega arith; target = omega arith; csr = omega arith }

cond-in-range : (t : Bool) (c d : Control) → InRange c → InRange d → InRange (cond t c d)
cond-in-range true c d i j = i
cond-in-range false c d i j = j

module _ (b : List ℕ) (bytes : AreBytes b) (long : length b ≡ 24) where
  field_below : (at n : ℕ) → at + n ≤ 24 → field b at n < 2 ^ (8 * n)
  field_below at n h =
      let size : length (part b at n) ≡ n = length_part b at n (omega arith) in
      rw size at (number-below (part b at n) (part_bytes b at n bytes))

  block-in-range : (k : Mark) → target_of k < 2 ^ 64 → InRange (block b k)
  block-in-range k h = record { pc = field_below 0 8 (omega arith); target = h; csr = field_below 16 4 (omega arith) }

  by-mark-in-range : (k : ℕ) → InRange (by_mark b k)
  by-mark-in-range k =
      let taken = block-in-range (Taken (field b 8 8)) (field_below 8 8 (omega arith)) in
      cond-in-range (eqb k 0) _ _ (block-in-range Clear (omega arith))
      (cond-in-range (eqb k 1) _ _ (block-in-range NotTaken (omega arith))
      (cond-in-range (eqb k 2) _ _ taken broken-in-range))

pub decoded-in-range : DecodedInRange
unfolding decoded
decoded-in-range b bytes = go (eqb (length b) 24) refl
  where
    go : (t : Bool) → eqb (length b) 24 ≡ t
        → InRange (cond t (cond (leb (byte b 22) 1 && leb (byte b 23) 1) (by_mark b (field b 20 2)) broken) broken)
    go true h =
        let long : length b ≡ 24 = eqb-true (length b) 24 h in
        cond-in-range (leb (byte b 22) 1 && leb (byte b 23) 1) _ _ (by-mark-in-range b bytes long (field b 20 2))
        broken-in-range
    go false h = broken-in-range

-- steps

target_below : (taken? : Bool) (pc offset : ℕ) → target_of (marked taken? (target pc offset)) < 2 ^ 64
unfolding target
target_below true pc offset = wrap-below 64 _
target_below false pc offset = omega arith

pc-below : (k : Mark) (pc : ℕ) → target_of k < 2 ^ 64 → pc_after k pc < 2 ^ 64
pc-below Clear pc h = omega arith
pc-below NotTaken pc h = omega arith
pc-below (Taken t) pc h = h

module _ (c : Control) (i : InRange c) where
  forward : (k : Mark) (x : ℕ) → target_of k < 2 ^ 64 → x < 2 ^ 32 → InRange (forwarded c k x)
  forward k x t h = record { pc = pc-below c.mark c.pc i.target; target = t; csr = h }

  cleared : InRange (forwarded c Clear c.csr)
  cleared = forward Clear c.csr (omega arith) i.csr

  planned-in-range : (j : Instr) (q : Plan) → Within c.pc j q → InRange (control_after q c)
  planned-in-range j (plan.Stop s) h = i
  planned-in-range j plan.Nothing h = cleared
  planned-in-range j (plan.Vector r v) h = cleared
  planned-in-range j (plan.General r x) h = cleared
  planned-in-range j (plan.Store a v) h = cleared
  planned-in-range j (plan.Csr x) h = forward Clear x (omega arith) (omega arith)
  planned-in-range j (plan.Branch k) (b, taken?, same) =
      forward k c.csr (rw same (target_below taken? c.pc (offset_of b))) i.csr

pub step-in-range : StepInRange
step-in-range p e m done i =
    let s = finished-step p e m done in
    rw s.after
    (planned-in-range m.ctl i s.instruction (plan_of e m s.instruction) (planned-within e m s.instruction))

pub steps-in-range : StepsInRange
steps-in-range p e n m m' none i = i
steps-in-range p e n m m' (more h s) i = steps-in-range p e _ _ m' s (step-in-range p e m h i)

pub run-in-range : RunInRange
run-in-range p e budget m i = go (refusal p e m) refl
  where
    go : (q : Result ⊤ Refusal) → refusal p e m ≡ q → InRange (whole_run p e budget m).after.ctl
    go (Ok tt) h = steps-in-range p e _ m _ (accepted-run p e budget m h).steps i
    go (Err r) h = rw (refused-run p e budget m r h) i
