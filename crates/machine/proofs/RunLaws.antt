-- Laws of a run: what one more step adds, and how it ends.
use Rattle.std.proofs.Common.{◌≡◌, ℕ, suc, ◌+◌, ◌-◌, ◌<◌, ◌≤◌, List, sym, refl, ap, ◌∙◌, add-zero, add_assoc, zero-add, arith}
use Rattle.std.specs.Prelude.{Ok, Err, Some, None, Result, Option, ⊤}
use Rattle.isa.specs.declared.Instr.{Instr}
use Rattle.isa.specs.declared.Unread.{Unread}
use Rattle.reading.specs.Reading.{read_of}
use Rattle.plan.specs.declared.Plan.{Plan}
use Rattle.plan.specs.declared.Plan.TheVariants as plan
use Rattle.plan.specs.Plan.{plan_of}
use Rattle.state.specs.declared.control.Control.{Control}
use Rattle.state.specs.declared.stops.Stop.{Stop}
use Rattle.state.specs.Fetch.{fetched}
use Rattle.state.specs.Machine.{Env, Machine, machine}
use Rattle.machine.specs.declared.step.Stepped.{Stepped}
use Rattle.machine.specs.declared.run.Ended.{Ended}
use Rattle.machine.specs.declared.run.Reason.{Reason}
use Rattle.machine.specs.declared.run.Reason.TheVariants as reason
use Rattle.machine.specs.Numbers.{reason_number, reason_carried}
use Rattle.machine.specs.Run.{Run, RunIs, runs, adding, ended, onward, outcome_in, stepped_as}
use Rattle.machine.specs.Step.{Ending, result, StepIs, step_of, concluded, decided, attempted}
use Rattle.machine.proofs.Said.{reason-is}

-- a step that stops leaves the machine as it was
module _ (e : Env) (m : Machine) (s : Stop) where
  abbrev Kept : Ending → Type 0
  Kept r = r.outcome ≡ Err s → r.after ≡ m

  clash : {A : Type 0} → ◌≡◌ {A = Result ⊤ Stop} (Ok tt) (Err s) → A
  clash h = let z : ◌≡◌ {A = ℕ} 0 1 = cc in absurd (omega arith)

  concluded-kept : (p : Plan) → Kept (concluded e.board.work p m)
  concluded-kept (plan.Stop x) h = refl
  concluded-kept plan.Nothing h = clash h
  concluded-kept (plan.Vector r v) h = clash h
  concluded-kept (plan.General r x) h = clash h
  concluded-kept (plan.Store a v) h = clash h
  concluded-kept (plan.Csr x) h = clash h
  concluded-kept (plan.Branch k) h = clash h

  decided-kept : (r : Result Instr Unread) → Kept (decided r e m)
  decided-kept (Err u) h = refl
  decided-kept (Ok i) h = concluded-kept (plan_of e m i) h

  attempted-kept : (f : Option ℕ) → Kept (attempted f e m)
  attempted-kept (Some w) h = decided-kept (read_of w) h
  attempted-kept None h = refl

pub stop-keeps : (p : List ℕ) (e : Env) (m : Machine) (s : Stop) → (step_of p e m).outcome ≡ Err s → (step_of p e m).after ≡ m
unfolding step_of
stop-keeps p e m s = attempted-kept e m s (fetched p e.board.program m.ctl.pc)

-- two machines are one where their parts are
pub same-machine : (m : Machine) (v g w : List ℕ) (c : Control) → v ≡ m.vec → g ≡ m.gen → w ≡ m.work → c ≡ m.ctl → m ≡ machine v g w c
same-machine m v g w c pv pg pw pc = sym (λ j. machine (pv j) (pg j) (pw j) (pc j))

module _ (p : List ℕ) (e : Env) (m : Machine) (k : ℕ) where
  pub runs-finished : (step_of p e m).outcome ≡ Ok tt → runs p e (suc k) m ≡ adding 1 (runs p e k (step_of p e m).after)
  unfolding runs
  runs-finished h = rw h

  pub runs-stopped : (s : Stop) → (step_of p e m).outcome ≡ Err s → runs p e (suc k) m ≡ ended (reason.Stopped s) m
  unfolding runs
  runs-stopped s h = rw (h, stop-keeps p e m s h)

adding-adding : (n : ℕ) (r : Run) → adding (n + 1) r ≡ adding n (adding 1 r)
adding-adding n r = ap (λ k. record { reason = r.reason; count = k; after = r.after }) (add_assoc n 1 r.count)

-- the invariant of the loop: count steps are done, and the rest of the run is that from m
abbrev pub Sofar : List ℕ → Env → ℕ → ℕ → Machine → Run → Type 0
Sofar p e budget count m whole = adding count (runs p e (budget - count) m) ≡ whole

-- before the first step all of it is left
pub sofar-none : (p : List ℕ) (e : Env) (budget : ℕ) (m : Machine) → Sofar p e budget 0 m (runs p e budget m)
sofar-none p e budget m =
    let r : Run = runs p e budget m in
    let k : budget - 0 ≡ budget = omega arith in
    ap (λ n. adding 0 (runs p e n m)) k ∙ ap (λ n. record { reason = r.reason; count = n; after = r.after }) (zero-add r.count)

-- a run that ends at m
ends_is : (whole : Run) (why : Reason) (count : ℕ) (m : Machine) → adding count (ended why m) ≡ whole
    → RunIs whole (record { reason = why; count = count; control = m.ctl }) m.vec m.gen m.work
ends_is whole why count m ends =
    record {
      reason = ap (λ x. reason_number x.reason) ends;
      carried = ap (λ x. reason_carried x.reason) ends;
      count = sym (add-zero count) ∙ ap (λ x. x.count) ends;
      control = ap (λ x. x.after.ctl) ends;
      vec = ap (λ x. x.after.vec) ends;
      gen = ap (λ x. x.after.gen) ends;
      work = ap (λ x. x.after.work) ends;
    }

module _ (p : List ℕ) (e : Env) (budget count : ℕ) (m : Machine) (whole : Run) (i : Sofar p e budget count m whole) where
  -- one more finished step
  pub sofar-more : count < budget → (t : Stepped) (v g w : List ℕ) → StepIs (step_of p e m) t v g w → t.outcome ≡ Ok tt
      → Sofar p e budget (count + 1) (machine v g w t.control) whole
  sofar-more h t v g w s o =
      let k : budget - count ≡ suc (budget - (count + 1)) = omega arith in
      let left = budget - (count + 1) in
      adding-adding count (runs p e left (machine v g w t.control))
      ∙ ap (λ x. adding count (adding 1 (runs p e left x))) (sym (same-machine (step_of p e m).after v g w t.control s.vec s.gen s.work s.control))
      ∙ ap (adding count) (sym (ap (λ n. runs p e n m) k ∙ runs-finished p e m left (sym s.outcome ∙ o)))
      ∙ i

  -- a stop ends it with its reason, at the machine as it was
  pub sofar-stopped : count < budget → (x : Stop) (t : Stepped) (v g w : List ℕ) → StepIs (step_of p e m) t v g w → t.outcome ≡ Err x
      → RunIs whole (record { reason = reason.Stopped x; count = count; control = m.ctl }) v g w
  sofar-stopped h x t v g w s o =
      let k : budget - count ≡ suc (budget - (count + 1)) = omega arith in
      let stop : (step_of p e m).outcome ≡ Err x = sym s.outcome ∙ o in
      let kept = stop-keeps p e m x stop in
      let r = ends_is whole (reason.Stopped x) count m
      (ap (adding count) (sym (ap (λ n. runs p e n m) k ∙ runs-stopped p e m (budget - (count + 1)) x stop)) ∙ i)
      in
      record {
        reason = r.reason;
        carried = r.carried;
        count = r.count;
        control = r.control;
        vec = s.vec ∙ ap (λ y. y.vec) kept ∙ r.vec;
        gen = s.gen ∙ ap (λ y. y.gen) kept ∙ r.gen;
        work = s.work ∙ ap (λ y. y.work) kept ∙ r.work;
      }

  -- a spent budget ends it with 20
  pub sofar-spent : budget ≤ count → RunIs whole (record { reason = reason.Spent; count = count; control = m.ctl }) m.vec m.gen m.work
  unfolding runs
  sofar-spent h =
      let k : budget - count ≡ 0 = omega arith in
      ends_is whole reason.Spent count m (ap (λ n. adding count (runs p e n m)) (sym k) ∙ i)

-- a run of one instruction is a step
single : (o : Result ⊤ Stop) (m : Machine) (r : Ended) (v g w : List ℕ) → RunIs (onward o m (ended reason.Spent m)) r v g w
    → StepIs (result o m) (stepped_as r) v g w
single (Ok tt) m r v g w i =
    record { outcome = ap outcome_in (reason-is i); control = i.control; vec = i.vec; gen = i.gen; work = i.work }
single (Err s) m r v g w i =
    record { outcome = ap outcome_in (reason-is i); control = i.control; vec = i.vec; gen = i.gen; work = i.work }

pub one-step : (p : List ℕ) (e : Env) (m : Machine) (r : Ended) (v g w : List ℕ) → RunIs (runs p e 1 m) r v g w
    → StepIs (step_of p e m) (stepped_as r) v g w
unfolding runs
one-step p e m r v g w i = single (step_of p e m).outcome (step_of p e m).after r v g w i
