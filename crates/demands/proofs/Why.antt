-- The call names the true reason: its answer is the step's, and the row of that number, which is the first that applies
-- (`step-first`), has behind it the word at the counter and what the stop carries. Assumes nothing.
use mathlib.Core.Path.{◌≡◌, refl, sym, ap, ◌∙◌}
use mathlib.Core.Bool.{false, cond}
use mathlib.Core.List.{List, ◌++◌}
use Prim.Native.Nat.{ℕ, ◌*◌, ◌<◌}
use native.Mathlib.Omega.{arith}
use Rattle.isa.specs.declared.Instr.{Instr}
use Rattle.isa.specs.declared.Memory.{Memory}
use Rattle.std.specs.Prelude.{Ok, Err, Result, ⊤}
use Rattle.isa.specs.declared.Unread.{Unread}
use Rattle.isa.specs.declared.Unread.TheVariants.{Unassigned, LeftOut, Other}
use Rattle.state.specs.declared.setup.Refusal.{Refusal}
use Rattle.state.specs.declared.stops.Stop.{Stop}
use Rattle.state.specs.declared.stops.Stop.TheVariants as stop
use Rattle.state.specs.Machine.{Env, Machine}
use Rattle.state.specs.Numbers.{refusal_number}
use Rattle.state.specs.Setup.{refusal}
use Rattle.machine.specs.declared.run.Reason.{Reason}
use Rattle.machine.specs.declared.why.Cause.{Cause}
use Rattle.machine.specs.Numbers.{outcome_number, outcome_missing, outcome_carried, answer_number, answer_missing}
use Rattle.machine.specs.Numbers.{answer_carried, reason_number, reason_carried, reason_missing}
use Rattle.machine.specs.Run.{whole_run}
use Rattle.machine.specs.Step.{step_of, whole, whole_step}
use Rattle.machine.specs.Why.{stop_word, stop_fact, cause_of, next_of, unless_refused, why_of}
use Rattle.machine.proofs.RunLaws.{same-machine}
use Rattle.machine.proofs.Said.{answer-is, why-is}
use Rattle.demands.specs.AtCounter.{IgnoresSwitch, Accesses, at, SetsCsr, to, TrapBits}
use Rattle.demands.specs.AtCounter.{StandsAt, ReadsAs, IsWord, Does}
use Rattle.demands.specs.Demand1.{Why, spent, stopped}
use Rattle.demands.specs.Limits.{limits}
use Rattle.demands.specs.Missing.{Missing}
use Rattle.demands.specs.Reasons.{Behind, stops}
use Rattle.demands.specs.Tables.{Row, Says, Not, Some, little}
use Rattle.demands.specs.Why.{WhyOutcome, WhyAgrees, WhySays, OneReason, Goes, WhyGoes, WhyAfterRun}
use Rattle.demands.proofs.Answers.{step-first, refusal-between, stop-between}
use Rattle.demands.proofs.Carried.{outcome-is, access-map, access-carries, set-map, set-carries}
use Rattle.demands.proofs.Demand1.{accepted-run, refused-run}
use Rattle.demands.proofs.Kept.{steps-accepted}
use Rattle.demands.proofs.Missing.{accepted-names, one-access}
use Rattle.demands.proofs.Reasons.{word, word-is, both-do}
use Rattle.demands.proofs.Rows.{Each, all, ◌&◌, each_append, each_map}
use Rattle.demands.proofs.Rows.{says, One, one-first, one-said, said-first}
use Rattle.demands.proofs.TrapBits.{arming-is, one-bits}

-- no stop has the number of a refusal
not-refusal : (o : Result ⊤ Stop) (k : ℕ) → 0 < k → k < 11 → k ≡ outcome_number o → ⊥
not-refusal (Ok tt) k l u h = omega arith
not-refusal (Err s) k l u h = omega (arith, (stop-between s).0)

module _ (p : List ℕ) (e : Env) (m : Machine) where
  abbrev end : Result ⊤ Stop
  end = (step_of p e m).outcome

  abbrev cause : Cause
  cause = cause_of m.ctl.pc (word p e m) end

  -- ---- behind the rows

  abbrev IsBehind : Cause → Row → Type 0
  IsBehind y r = r.number ≡ answer_number y.answer → r.applies → r.behind y.word y.fact

  stands_at : {r : Result Instr Unread} → ReadsAs p e m r → Some (StandsAt p e m)
  stands_at r = record { number = r.number; holds = r.holds.0 }

  does_at : {f : Instr → Type 0} → Does p e m f → Some (StandsAt p e m)
  does_at d = stands_at d.reads

  -- what stands behind 12 to 19, of the stop s
  behind : (f : ℕ → ℕ → Type 0) (s : Stop) → end ≡ Err s → stop_word (word p e m) s ≡ word p e m
      → Some (StandsAt p e m) → f (word p e m) (stop_fact m.ctl.pc (word p e m) s)
      → Behind p e m f cause.word cause.fact
  behind f s i is here h = rw (i, is) (word-is p e m here, h)

  own : (s : Stop) → end ≡ Err s → stop_word (word p e m) s ≡ word p e m
      → stop_fact m.ctl.pc (word p e m) s ≡ word p e m → Some (StandsAt p e m)
      → Behind p e m (λ w x. x ≡ w) cause.word cause.fact
  own s i is fact here = behind (λ w x. x ≡ w) s i is here fact

  answers : (o : Result ⊤ Stop) → (cause_of m.ctl.pc (word p e m) o).answer ≡ Ok o
  answers (Ok tt) = refl
  answers (Err s) = refl

  number_is : answer_number cause.answer ≡ outcome_number end
  number_is = ap answer_number (answers end)

  -- the step's number by that of a row
  by : {k : ℕ} → k ≡ answer_number cause.answer → outcome_number end ≡ k
  by h = sym (h ∙ number_is)

  each-stop : refusal p e m ≡ Ok tt → Each (IsBehind cause) (stops p e m)
  each-stop ok =
      (λ h n. eleven (by h))
      & (λ h a. own (stop.Unread Unassigned) (outcome-is end 12 (by h)) refl refl (stands_at a))
      & (λ h a. own (stop.Unread LeftOut) (outcome-is end 13 (by h)) refl refl (stands_at a))
      & (λ h a. own (stop.Unread Other) (outcome-is end 14 (by h)) refl refl (stands_at a))
      & (λ h d. own stop.BranchInSlot (outcome-is end 15 (by h)) refl refl (does_at d))
      & (λ h d. sixteen (by h) d)
      & (λ h d. seventeen (by h) (does_at d))
      & (λ h d. eighteen (by h) d)
      & (λ h d. nineteen (by h) d)
      & all
    where
      eleven : outcome_number end ≡ 11 → (cause.word ≡ 0) × (cause.fact ≡ m.ctl.pc)
      eleven h = rw (outcome-is end 11 h) (refl, refl)

      sixteen : outcome_number end ≡ 16 → Does p e m (λ i. Not (IgnoresSwitch i) × (m.ctl.on ≡ false))
          → Behind p e m (λ w x. x ≡ cond m.ctl.on 1 0) cause.word cause.fact
      sixteen h d =
          behind (λ w x. x ≡ cond m.ctl.on 1 0) stop.SwitchedOff (outcome-is end 16 h) refl (does_at d)
          (rw d.holds.1)

      seventeen : outcome_number end ≡ 17 → Some (StandsAt p e m)
          → Behind p e m (λ w x. Does p e m (Accesses m (λ o a. Missing e m a x))) cause.word cause.fact
      seventeen h here =
          let i = outcome-is end 17 h in
          let is : outcome_missing end ≡ outcome_carried end = ap outcome_missing i in
          behind (λ w x. Does p e m (Accesses m (λ o a. Missing e m a x)))
          (stop.NoWindow (outcome_carried end)) i refl here
          (rw is at ((accepted-names p e m ok).missing h))

      eighteen : {f : Memory → ℕ → Type 0} → outcome_number end ≡ 18 → Does p e m (Accesses m f)
          → Behind p e m (λ w x. Does p e m (Accesses m (λ o a. x ≡ a))) cause.word cause.fact
      eighteen h d =
          behind (λ w x. Does p e m (Accesses m (λ o a. x ≡ a)))
          (stop.ReadOnly (outcome_carried end)) (outcome-is end 18 h)
          refl (does_at d)
          (record {
            instruction = d.instruction;
            reads = d.reads;
            holds = access-map (λ o a f. f.2.1 h) (access-carries p e m ok d.reads d.holds);
          })

      nineteen : {f : ℕ → Type 0} → outcome_number end ≡ 19 → Does p e m (SetsCsr m f)
          → Behind p e m (λ w x. Does p e m (SetsCsr m (λ v. TrapBits v x))) cause.word cause.fact
      nineteen h d =
          behind (λ w x. Does p e m (SetsCsr m (λ v. TrapBits v x)))
          (stop.Trap (outcome_carried end)) (outcome-is end 19 h)
          refl (does_at d)
          (record {
            instruction = d.instruction;
            reads = d.reads;
            holds = set-map (λ v f. rw (f.1 h) (arming-is v)) (set-carries p e m d.reads d.holds);
          })

  -- ---- both tables

  abbrev pub told : Result ⊤ Refusal → Cause
  told q = unless_refused q (next_of p e m)

  -- the answer is the step's
  pub same_answer : (q : Result ⊤ Refusal) → (told q).answer ≡ (whole q (step_of p e m) m).answer
  unfolding next_of
  same_answer (Ok tt) = answers end
  same_answer (Err r) = refl

  -- the number of a refusal is that of no stop
  not-stop : (r : Refusal) (n : ℕ) → n ≡ refusal_number r → (f : Row → Type 0)
      → Each (λ row. row.number ≡ n → f row) (stops p e m)
  not-stop r n e f =
      past 11 (omega arith)
      & past 12 (omega arith)
      & past 13 (omega arith)
      & past 14 (omega arith)
      & past 15 (omega arith)
      & past 16 (omega arith)
      & past 17 (omega arith)
      & past 18 (omega arith)
      & past 19 (omega arith)
      & all
    where
      past : (k : ℕ) → 10 < k → {A : Type 0} → k ≡ n → A
      past k l h = absurd (omega (arith, (refusal-between r).1))

  each_row : (q : Result ⊤ Refusal) → refusal p e m ≡ q → Each (IsBehind (told q)) (limits p e m ++ stops p e m)
  unfolding next_of
  each_row (Ok tt) ok = each_append limit (each-stop ok)
    where
      none : {A : Type 0} (k : ℕ) → 0 < k → k < 11 → k ≡ answer_number cause.answer → A
      none k l u h = absurd (not-refusal end k l u (h ∙ number_is))

      limit : Each (IsBehind cause) (limits p e m)
      limit =
          (λ h a. none 1 (omega arith) (omega arith) h)
          & (λ h a. none 2 (omega arith) (omega arith) h)
          & (λ h a. none 3 (omega arith) (omega arith) h)
          & (λ h a. none 4 (omega arith) (omega arith) h)
          & (λ h a. none 5 (omega arith) (omega arith) h)
          & all
  each_row (Err r) ok =
      each_append ((λ h a. zeros) & (λ h a. zeros) & (λ h a. zeros) & (λ h a. zeros) & (λ h a. zeros) & all)
      (not-stop r (refusal_number r) refl (λ row. row.applies → row.behind 0 0))
    where
      zeros : (◌≡◌ {A = ℕ} 0 0) × (◌≡◌ {A = ℕ} 0 0)
      zeros = (refl, refl)

  none-zero : (q : Result ⊤ Refusal) → answer_number (told q).answer ≡ 0 → ((told q).word ≡ 0) × ((told q).fact ≡ 0)
  unfolding next_of
  none-zero (Ok tt) h = rw (outcome-is end 0 (sym number_is ∙ h)) (refl, refl)
  none-zero (Err r) h = (refl, refl)

  pub whole_says : Says (limits p e m ++ stops p e m) (answer_number (why_of p e m).answer) (why_of p e m).word
      (why_of p e m).fact
  whole_says =
      let q = refusal p e m in
      says (limits p e m ++ stops p e m) _ _ _ (none-zero q) (each_row q refl)
      (rw (same_answer q) (step-first p e m))

-- with 17 the fact is the address that the step's answer has
pub fact-missing : (p : List ℕ) (e : Env) (m : Machine) → answer_number (why_of p e m).answer ≡ 17
    → (why_of p e m).fact ≡ answer_missing (whole_step p e m).answer
unfolding next_of
fact-missing p e m = go (refusal p e m)
  where
    go : (q : Result ⊤ Refusal) → answer_number (told p e m q).answer ≡ 17
        → (told p e m q).fact ≡ answer_missing (whole q (step_of p e m) m).answer
    go (Ok tt) h = rw (outcome-is (step_of p e m).outcome 17 (sym (number_is p e m) ∙ h))
    go (Err r) h = absurd (omega (arith, (refusal-between r).1))

pub why-says : WhySays
why-says p e m y i = rw (why-is i) (whole_says p e m)

pub why-outcome : WhyOutcome
why-outcome p e m y i ok =
    ap (λ x. x.answer) (why-is i) ∙ same_answer p e m (refusal p e m) ∙ ap (λ q. (whole q (step_of p e m) m).answer) ok

pub why-agrees : WhyAgrees
why-agrees p e m y r v g w i j = ap (λ x. x.answer) (why-is i) ∙ same_answer p e m (refusal p e m) ∙ sym (answer-is j)

-- ---- one reason

-- two that are the same two numbers
equal : {c d : ℕ} (w v x y : ℕ) → (w ≡ c) × (x ≡ d) → (v ≡ c) × (y ≡ d) → (w ≡ v) × (x ≡ y)
equal w v x y a b = (a.0 ∙ sym b.0, a.1 ∙ sym b.1)

module _ (p : List ℕ) (e : Env) (m : Machine) where
  one_word : {w v : ℕ} → IsWord p e m w → IsWord p e m v → w ≡ v
  one_word s t =
      let k : s.number ≡ t.number = omega (arith, s.holds.0.1, t.holds.0.1) in
      s.holds.1 ∙ ap (λ i. little p (4 * i) 4) k ∙ sym t.holds.1

  one_store : (i : Instr) (x y : ℕ) → Accesses m (λ o a. x ≡ a) i → Accesses m (λ o a. y ≡ a) i → x ≡ y
  one_store i x y (at q) (at r) = q ∙ sym r

  one_set : (i : Instr) (x y : ℕ) → SetsCsr m (λ v. TrapBits v x) i → SetsCsr m (λ v. TrapBits v y) i → x ≡ y
  one_set i x y (to a q) (to b r) = one-bits _ x y q r

  -- behind 12 to 19
  one-behind : (f : ℕ → ℕ → Type 0) → ((w v x y : ℕ) → w ≡ v → f w x → f v y → x ≡ y)
      → (w v x y : ℕ) → Behind p e m f w x → Behind p e m f v y → (w ≡ v) × (x ≡ y)
  one-behind f one w v x y a b = let h = one_word a.0 b.0 in (h, one w v x y h a.1 b.1)

  own-one : (w v x y : ℕ) → Behind p e m (λ w x. x ≡ w) w x → Behind p e m (λ w x. x ≡ w) v y → (w ≡ v) × (x ≡ y)
  own-one = one-behind (λ w x. x ≡ w) (λ w v x y h a b. a ∙ h ∙ sym b)

  each-one : refusal p e m ≡ Ok tt → Each One (limits p e m ++ stops p e m)
  each-one ok =
      each_append (equal & equal & equal & equal & equal & all)
      (equal
      & own-one
      & own-one
      & own-one
      & own-one
      & one-behind (λ w x. x ≡ cond m.ctl.on 1 0) (λ w v x y h a b. a ∙ sym b)
      & one-behind (λ w x. Does p e m (Accesses m (λ o a. Missing e m a x)))
      (λ w v x y h. both-do p e m (λ i. one-access p e m ok i x y))
      & one-behind (λ w x. Does p e m (Accesses m (λ o a. x ≡ a))) (λ w v x y h. both-do p e m (λ i. one_store i x y))
      & one-behind (λ w x. Does p e m (SetsCsr m (λ v. TrapBits v x)))
      (λ w v x y h. both-do p e m (λ i. one_set i x y))
      & all)

  -- of a refused set-up the first row is a limit, and nothing stands behind it
  each-given : (q : Result ⊤ Refusal) → refusal p e m ≡ q → (n : ℕ) → n ≡ answer_number (whole q (step_of p e m) m).answer
      → Each (λ r. r.number ≡ n → One r) (limits p e m ++ stops p e m)
  each-given (Ok tt) ok n h = each_map (λ r one h. one) (each-one ok)
  each-given (Err r) ok n h =
      each_append ((λ k. equal) & (λ k. equal) & (λ k. equal) & (λ k. equal) & (λ k. equal) & all)
      (not-stop p e m r n h One)

pub one-reason : OneReason
one-reason p e m n k w v x y s t =
    let is : n ≡ answer_number (whole_step p e m).answer = one-first _ n _ (said-first s) (step-first p e m) in
    let both = one-said _ n k w v x y (each-given p e m (refusal p e m) refl n is) s t in
    (one-first _ n k (said-first s) (said-first t), both.0, both.1)

-- ---- where no reason is named

goes_none : (p : List ℕ) (e : Env) (m : Machine) → Goes p e m → answer_number (why_of p e m).answer ≡ 0
unfolding next_of
goes_none p e m g = rw (g.accepted, g.finished)

none-goes : (p : List ℕ) (e : Env) (m : Machine) → answer_number (whole_step p e m).answer ≡ 0 → Goes p e m
none-goes p e m = go (refusal p e m) refl
  where
    go : (q : Result ⊤ Refusal) → refusal p e m ≡ q → answer_number (whole q (step_of p e m) m).answer ≡ 0 → Goes p e m
    go (Ok tt) ok h = record { accepted = ok; finished = outcome-is (step_of p e m).outcome 0 h }
    go (Err r) ok h = absurd (omega (arith, (refusal-between r).0))

pub why-goes : WhyGoes
why-goes p e m y i =
    let is : y.answer ≡ (why_of p e m).answer = ap (λ x. x.answer) (why-is i) in
    let same = ap answer_number (is ∙ same_answer p e m (refusal p e m)) in
    (λ h. none-goes p e m (sym same ∙ h), λ g. ap answer_number is ∙ goes_none p e m g)

-- ---- after a run

-- what a run that did not spend its budget has in common with a step's answer
pub record Likewise (r : Reason) (a : Result (Result ⊤ Stop) Refusal) : Type 0 where
  pub number : answer_number a ≡ reason_number r
  pub carried : answer_carried a ≡ reason_carried r
  pub missing : answer_missing a ≡ reason_missing r

-- where such a run ended the next step ends so
pub ends-likewise : (p : List ℕ) (e : Env) (budget : ℕ) (m : Machine)
    → Not (reason_number (whole_run p e budget m).reason ≡ 20)
    → Likewise (whole_run p e budget m).reason (whole_step p e (whole_run p e budget m).after).answer
ends-likewise p e budget m = go (refusal p e m) refl
  where
    by-why : (count : ℕ) (n : Machine) (r : Reason) → refusal p e n ≡ Ok tt → Why p e budget count n r
        → Not (reason_number r ≡ 20) → Likewise r (whole_step p e n).answer
    by-why count n r ok (spent l) h = absurd (h refl)
    by-why count n r ok (stopped s l stop) h = rw (ok, stop) (record { number = refl; carried = refl; missing = refl })

    go : (q : Result ⊤ Refusal) → refusal p e m ≡ q → Not (reason_number (whole_run p e budget m).reason ≡ 20)
        → Likewise (whole_run p e budget m).reason (whole_step p e (whole_run p e budget m).after).answer
    go (Ok tt) ok h =
        let ends = accepted-run p e budget m ok in
        by-why _ _ _ (steps-accepted p e _ m _ ends.steps ok) ends.why h
    go (Err r) refuses h =
        rw (refused-run p e budget m r refuses, refuses) (record { number = refl; carried = refl; missing = refl })

pub why-after-run : WhyAfterRun
why-after-run p e budget m r v g w y i j h =
    let run = whole_run p e budget m in
    let left = same-machine run.after v g w r.control i.vec i.gen i.work i.control in
    let answer = ap (λ x. x.answer) (why-is j) ∙ same_answer p e _ (refusal p e _)
    ∙ ap (λ n. (whole_step p e n).answer) (sym left)
    in
    let alike = ends-likewise p e budget m (λ k. h (i.reason ∙ k)) in (
      ap answer_number answer ∙ alike.number ∙ sym i.reason,
      ap answer_carried answer ∙ alike.carried ∙ sym i.carried,
    )
