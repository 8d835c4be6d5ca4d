-- The missing address. An access that stops with 17 lies in neither window (`first-reason`), so some address of the
-- sixteen is outside the window that holds the first; the definition finds the first such. Assumes nothing.
use mathlib.Core.Path.{◌≡◌, refl, sym, ap, ◌∙◌}
use mathlib.Core.Bool.{Bool, true, false}
use mathlib.Core.List.{List}
use Prim.Native.Nat.{ℕ, zero, suc, ◌+◌, ◌%◌, ◌^◌, ◌<◌}
use native.Mathlib.Decide.{dec_lt, ℕ_discrete}
use native.Mathlib.Nat.{mod-lt}
use native.Mathlib.Omega.{arith}
use lib.ListN.{length}
use lib.Pow.{pow_pos}
use Rattle.isa.specs.declared.Instr.{Instr}
use Rattle.isa.specs.declared.Memory.{Memory}
use Rattle.state.specs.declared.setup.Refusal.{Refusal}
use Rattle.std.specs.Prelude.{Ok, Err, Result, ⊤}
use Rattle.state.specs.declared.stops.Stop.{Stop}
use Rattle.state.specs.declared.stops.Stop.TheVariants as stop
use Rattle.state.specs.Machine.{Env, Machine}
use Rattle.state.specs.Numbers.{refusal_number, stop_number, stop_missing}
use Rattle.state.specs.Setup.{refusal}
use Rattle.state.specs.Windows.{lies_in, first_outside, missing}
use Rattle.state.proofs.WindowLaws.{outside-here, outside-next, missing-table, missing-other}
use Rattle.machine.specs.declared.run.Reason.{Reason}
use Rattle.machine.specs.Numbers.{outcome_number, answer_number, reason_number}
use Rattle.machine.specs.Numbers.{outcome_missing, answer_missing, reason_missing, outcome_carried}
use Rattle.machine.specs.Run.{whole_run}
use Rattle.machine.specs.Step.{step_of, whole, whole_step}
use Rattle.machine.proofs.RunLaws.{same-machine}
use Rattle.machine.proofs.Said.{answer-is, reason-is}
use Rattle.demands.specs.Demand1.{Why, spent, stopped}
use Rattle.demands.specs.Limits.{limits}
use Rattle.demands.specs.Missing.{FirstOutside, TableHolds, WorkHolds, Missing, table, work, nowhere}
use Rattle.demands.specs.Missing.{OneMissing, Names, StepMissing, RunMissing}
use Rattle.demands.specs.AtCounter.{Accesses, at, InTable, InWork, Does}
use Rattle.demands.specs.Reasons.{stops}
use Rattle.demands.specs.Tables.{First, none, Not, Inside}
use Rattle.demands.proofs.Answers.{refusal-between}
use Rattle.demands.proofs.Carried.{outcome-is, missing_from, access-map, access-carries}
use Rattle.demands.proofs.Demand1.{accepted-run, refused-run}
use Rattle.demands.proofs.Kept.{steps-accepted}
use Rattle.demands.proofs.Limits.{first-limit}
use Rattle.demands.proofs.Reasons.{first-reason, both-do}
use Rattle.demands.proofs.Rows.{skipped, applies, passes, empty}
use Rattle.demands.proofs.Reflects.{Reflects, le-reflects, lt-reflects, and-reflects}

-- ---- the first address outside a window

-- an address further on, counted from the next
next : (a k : ℕ) → ((a + 1) % 2 ^ 64 + k) % 2 ^ 64 ≡ (a + suc k) % 2 ^ 64
next a k = omega arith

module _ (base len : ℕ) where
  -- the machine's test of one address
  inside : (x : ℕ) → Reflects (lies_in base len x) (Inside base len x)
  unfolding lies_in
  inside x = and-reflects _ _ (le-reflects base x) (lt-reflects x (base + len))

  -- the window holds n addresses from a
  abbrev All : ℕ → ℕ → Type 0
  All n a = (k : ℕ) → k < n → Inside base len ((a + k) % 2 ^ 64)

  -- the first of them, and those after it
  joined : (n a : ℕ) → a < 2 ^ 64 → Inside base len a → All n ((a + 1) % 2 ^ 64) → All (suc n) a
  joined n a l i all zero h = let e : (a + 0) % 2 ^ 64 ≡ a = omega arith in rw e i
  joined n a l i all (suc k) h = rw (next a k) at (all k (omega arith))

  first-outside : (n a : ℕ) → a < 2 ^ 64 → Not (All n a) → FirstOutside n base len a (first_outside n base len a)
  first-outside zero a l some = absurd (some (λ k h. absurd (omega arith)))
  first-outside (suc n) a l some =
      go (lies_in base len a) refl (first-outside n ((a + 1) % 2 ^ 64) (mod-lt (a + 1) (pow_pos 64)))
    where
      after : ℕ
      after = (a + 1) % 2 ^ 64

      go : (b : Bool) → lies_in base len a ≡ b
          → (Not (All n after) → FirstOutside n base len after (first_outside n base len after))
          → FirstOutside (suc n) base len a (first_outside (suc n) base len a)
      go false h later =
          rw (outside-here base len a (suc n) h)
          (record {
            place = 0;
            within = omega arith;
            is = omega arith;
            outside = (inside a).no h;
            before = λ k l. absurd (omega arith);
          })
      go true h later =
          let i = (inside a).yes h in
          let rest = later (λ all. some (joined n a l i all)) in
          rw (outside-next base len a n h)
          (record {
            place = suc rest.place;
            within = omega (arith, rest.within);
            is = rest.is ∙ next a rest.place;
            outside = rest.outside;
            before = joined rest.place a l i rest.before;
          })

-- ---- an access

module _ (e : Env) (m : Machine) where
  -- the definition's address, of an access that neither window holds whole
  missing-is : (a : ℕ) → a < 2 ^ 64 → Not (InTable e a) → Not (InWork e m a) → Missing e m a (missing_from e m a)
  missing-is a l t w = go (lies_in tb tn a) (lies_in wb wn a) refl refl
    where
      tb : ℕ
      tb = e.board.table

      tn : ℕ
      tn = length e.table

      wb : ℕ
      wb = e.board.work

      wn : ℕ
      wn = length m.work

      go : (x y : Bool) → lies_in tb tn a ≡ x → lies_in wb wn a ≡ y → Missing e m a (missing_from e m a)
      go true y h k =
          rw (missing-table e.board tn wn a h) (table ((inside tb tn a).yes h) (first-outside tb tn 16 a l t))
      go false true h k =
          rw (missing-other e.board tn wn a h) (work ((inside wb wn a).yes k) (first-outside wb wn 16 a l w))
      go false false h k =
          nowhere ((inside tb tn a).no h) ((inside wb wn a).no k)
          (missing-other e.board tn wn a h ∙ outside-here wb wn a 16 k)

-- ---- one address

-- of two the one that stands before the other would be inside
one_outside : {n base len a x y : ℕ} → FirstOutside n base len a x → FirstOutside n base len a y → x ≡ y
one_outside {n} {base} {len} {a} {x} {y} f g = go (dec_lt f.place g.place) (dec_lt g.place f.place)
  where
    go : Dec (f.place < g.place) → Dec (g.place < f.place) → x ≡ y
    go (yes h) d = absurd (f.outside (rw f.is (g.before f.place h)))
    go (no h) (yes k) = absurd (g.outside (rw g.is (f.before g.place k)))
    go (no h) (no k) =
        let same : f.place ≡ g.place = omega arith in
        f.is ∙ ap (λ k. (a + k) % 2 ^ 64) same ∙ sym g.is

-- limit 4
windows-apart : (p : List ℕ) (e : Env) (m : Machine) → refusal p e m ≡ Ok tt → (a : ℕ) → TableHolds e a
    → WorkHolds e m a → ⊥
windows-apart p e m ok a t w =
    let rows : First (limits p e m) 0 = rw ok at (first-limit p e m) in
    passes (λ k. omega arith)
    (skipped (λ k. omega arith) (skipped (λ k. omega arith) (skipped (λ k. omega arith) rows)))
    (record { number = a; holds = (t, w) })

one_address : (p : List ℕ) (e : Env) (m : Machine) → refusal p e m ≡ Ok tt
    → (a x y : ℕ) → Missing e m a x → Missing e m a y → x ≡ y
one_address p e m ok a x y (table h f) (table k g) = one_outside f g
one_address p e m ok a x y (table h f) (work k g) = absurd (windows-apart p e m ok a h k)
one_address p e m ok a x y (table h f) (nowhere t w g) = absurd (t h)
one_address p e m ok a x y (work h f) (table k g) = absurd (windows-apart p e m ok a k h)
one_address p e m ok a x y (work h f) (work k g) = one_outside f g
one_address p e m ok a x y (work h f) (nowhere t w g) = absurd (w h)
one_address p e m ok a x y (nowhere t w f) (table k g) = absurd (t k)
one_address p e m ok a x y (nowhere t w f) (work k g) = absurd (w k)
one_address p e m ok a x y (nowhere t w f) (nowhere u v g) = f ∙ sym g

-- the access is that of the instruction at the counter
pub one-access : (p : List ℕ) (e : Env) (m : Machine) → refusal p e m ≡ Ok tt → (i : Instr) (x y : ℕ)
    → Accesses m (λ o a. Missing e m a x) i → Accesses m (λ o a. Missing e m a y) i → x ≡ y
one-access p e m ok i x y (at q) (at r) = one_address p e m ok _ x y q r

pub one-missing : OneMissing
one-missing p e m ok n x y c d = go (ℕ_discrete n 17)
  where
    go : Dec (n ≡ 17) → x ≡ y
    go (yes h) = both-do p e m (λ i. one-access p e m ok i x y) (c.missing h) (d.missing h)
    go (no h) = c.none h ∙ sym (d.none h)

-- ---- a step

-- no other number names an address
stop-none : (s : Stop) → Not (stop_number s ≡ 17) → stop_missing s ≡ 0
stop-none stop.NoWord h = refl
stop-none (stop.Unread u) h = refl
stop-none stop.BranchInSlot h = refl
stop-none stop.SwitchedOff h = refl
stop-none (stop.NoWindow x) h = absurd (h refl)
stop-none (stop.ReadOnly x) h = refl
stop-none (stop.Trap bits) h = refl

outcome-none : (o : Result ⊤ Stop) → Not (outcome_number o ≡ 17) → outcome_missing o ≡ 0
outcome-none (Ok tt) h = refl
outcome-none (Err s) h = stop-none s h

-- neither window holds the sixteen addresses from a
abbrev InNeither : Env → Machine → Memory → ℕ → Type 0
InNeither e m o a = Not (InTable e a) × Not (InWork e m a)

seventeen : (p : List ℕ) (e : Env) (m : Machine) (n : ℕ) → n ≡ 17 → First (stops p e m) n
    → Does p e m (Accesses m (InNeither e m))
seventeen p e m n h f =
    applies (λ g. let z = empty (skipped (λ k. omega arith) (skipped (λ k. omega arith) g)) in omega arith)
    (skipped (λ k. omega arith)
    (skipped (λ k. omega arith)
    (skipped (λ k. omega arith)
    (skipped (λ k. omega arith) (skipped (λ k. omega arith) (skipped (λ k. omega arith) f))))))

module _ (p : List ℕ) (e : Env) (m : Machine) where
  -- the step's outcome
  abbrev pub ends : Result ⊤ Stop
  ends = (step_of p e m).outcome

  -- an access in neither window stops with 17 and names the address that is missing
  pub accepted-names : refusal p e m ≡ Ok tt → Names p e m (outcome_number ends) (outcome_missing ends)
  accepted-names ok =
      record {
        missing = λ h.
            let d = seventeen p e m (outcome_number ends) h (first-reason p e m ok) in
            let is : outcome_missing ends ≡ outcome_carried ends = ap outcome_missing (outcome-is ends 17 h) in
            record {
              instruction = d.instruction;
              reads = d.reads;
              holds =
                  access-map (λ o a f. rw (is, f.2.0 h) (missing-is e m a f.1 f.0.0 f.0.1))
                  (access-carries p e m ok d.reads d.holds);
            };
        none = outcome-none ends;
      }

  -- an answer with another number
  nothing : (n : ℕ) → Not (n ≡ 17) → Names p e m n 0
  nothing n h = record { missing = λ k. absurd (h k); none = λ k. refl }

  refused-names : (r : Refusal) → Names p e m (refusal_number r) 0
  refused-names r = nothing (refusal_number r) (λ h. omega (arith, (refusal-between r).1))

-- the definition's step
pub step-names : (p : List ℕ) (e : Env) (m : Machine)
    → Names p e m (answer_number (whole_step p e m).answer) (answer_missing (whole_step p e m).answer)
step-names p e m = go (refusal p e m) refl
  where
    answered : Result ⊤ Refusal → Result (Result ⊤ Stop) Refusal
    answered q = (whole q (step_of p e m) m).answer

    go : (q : Result ⊤ Refusal) → refusal p e m ≡ q → Names p e m (answer_number (answered q)) (answer_missing (answered q))
    go (Ok tt) h = accepted-names p e m h
    go (Err r) h = refused-names p e m r

pub step-missing : StepMissing
step-missing p e m r v g w i = rw (answer-is i) (step-names p e m)

-- ---- a run

module _ (p : List ℕ) (e : Env) (budget : ℕ) where
  -- where it ended
  why-names : (count : ℕ) (m : Machine) (r : Reason) → refusal p e m ≡ Ok tt → Why p e budget count m r
      → Names p e m (reason_number r) (reason_missing r)
  why-names count m r ok (spent h) = nothing p e m 20 (λ k. omega arith)
  why-names count m r ok (stopped s l h) = rw h at (accepted-names p e m ok)

  -- the definition's run
  pub run-names : (m : Machine)
      → Names p e (whole_run p e budget m).after (reason_number (whole_run p e budget m).reason)
      (reason_missing (whole_run p e budget m).reason)
  run-names m = go (refusal p e m) refl
    where
      go : (q : Result ⊤ Refusal) → refusal p e m ≡ q
          → Names p e (whole_run p e budget m).after (reason_number (whole_run p e budget m).reason)
          (reason_missing (whole_run p e budget m).reason)
      go (Ok tt) h =
          let ends = accepted-run p e budget m h in
          why-names _ _ _ (steps-accepted p e _ m _ ends.steps h) ends.why
      go (Err r) h = rw (refused-run p e budget m r h) (refused-names p e m r)

pub run-missing : RunMissing
run-missing p e budget m r v g w i =
    let s = whole_run p e budget m in
    rw (reason-is i, ← same-machine s.after v g w r.control i.vec i.gen i.work i.control)
    (run-names p e budget m)
