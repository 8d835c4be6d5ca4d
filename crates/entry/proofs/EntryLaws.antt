-- From what the machine answers to what the C entry answers.
use mathlib.Core.Path.{◌≡◌, refl, ap, ◌∙◌}
use mathlib.Core.Bool.{cond}
use mathlib.Core.List.{List}
use Prim.Native.Nat.{ℕ}
use lib.Dec.{eqb, ltb}
use Rattle.isa.specs.declared.Unread.TheVariants.{Unassigned, LeftOut, Other}
use Rattle.state.specs.declared.setup.Refusal.{Refusal}
use Rattle.state.specs.declared.setup.Refusal.TheVariants.{Registers, Program, WindowSize, SharedAddress, State}
use Rattle.std.specs.Prelude.{Ok, Err, Result, ⊤}
use Rattle.state.specs.declared.stops.Stop.{Stop}
use Rattle.state.specs.declared.stops.Stop.TheVariants as stop
use Rattle.state.specs.Machine.{Env, Machine}
use Rattle.state.specs.Setup.{refusal}
use Rattle.machine.specs.declared.run.Ended.{Ended}
use Rattle.machine.specs.declared.run.Reason.TheVariants as reason
use Rattle.machine.specs.declared.why.Cause.{Cause}
use Rattle.machine.specs.Numbers.{answer_number, reason_number, answer_missing, reason_missing}
use Rattle.machine.specs.Run.{Run, RunIs, ended, onward, runs, admitted, whole_run}
use Rattle.machine.specs.Step.{Ending, Whole, result, step_of, whole, whole_step}
use Rattle.machine.specs.Why.{WhyIs}
use Rattle.machine.proofs.Said.{reason-is, why-is}
use Rattle.entry.specs.Block.{written}
use Rattle.entry.specs.Entry.{StepsTo, RunsTo}
use Rattle.entry.specs.Why.{answer_kind, explained}
use Rattle.entry.specs.declared.MsaEnded.{MsaEnded}
use Rattle.entry.specs.declared.MsaWhy.{MsaWhy}

module _ (v g w b b' : List ℕ) where
  pub runs_to : (s : Run) (a : Ended) (n x : ℕ) → RunIs s a v g w
      → n ≡ reason_number a.reason → x ≡ reason_missing a.reason
      → b' ≡ cond (ltb 0 a.count) (written a.control b) b
      → RunsTo s (record { reason = n; count = a.count; missing = x }) v g w b b'
  runs_to s a n x i e f h =
      record {
        reason = e ∙ i.reason;
        count = i.count;
        missing = f ∙ ap reason_missing (reason-is i);
        vec = i.vec;
        gen = i.gen;
        work = i.work;
        control = h ∙ ap (λ k. cond (ltb 0 k) (written a.control b) b) i.count
            ∙ ap (λ c. cond (ltb 0 s.count) (written c b) b) i.control;
      }

-- A run of one instruction is a step: where its budget is spent, the instruction is finished.
module _ (v g w b b' : List ℕ) where
  abbrev Single : Run → Whole → Type 0
  Single s t = (r : MsaEnded) → RunsTo s r v g w b b'
      → StepsTo t (record { reason = cond (eqb r.reason 20) 0 r.reason; missing = r.missing }) v g w b b'

  -- by the number n and the missing address x of both, the machine m after it, and whether the block is written
  single : (s : Run) (t : Whole)
      → cond (eqb (reason_number s.reason) 20) 0 (reason_number s.reason) ≡ answer_number t.answer
      → reason_missing s.reason ≡ answer_missing t.answer → s.after ≡ t.after
      → ltb 0 s.count ≡ eqb (answer_number t.answer) 0 → Single s t
  single s t n x m k r i =
      record {
        reason = ap (λ z. cond (eqb z 20) 0 z) i.reason ∙ n;
        missing = i.missing ∙ x;
        vec = i.vec ∙ ap (λ z. z.vec) m;
        gen = i.gen ∙ ap (λ z. z.gen) m;
        work = i.work ∙ ap (λ z. z.work) m;
        control = i.control ∙ ap (λ z. cond z (written s.after.ctl b) b) k
            ∙ ap (λ z. cond (eqb (answer_number t.answer) 0) (written z.ctl b) b) m;
      }

  refused : (x : Refusal) (m : Machine) (q : Ending) → Single (ended (reason.Refused x) m) (whole (Err x) q m)
  refused Registers m q = single _ _ refl refl refl refl
  refused Program m q = single _ _ refl refl refl refl
  refused WindowSize m q = single _ _ refl refl refl refl
  refused SharedAddress m q = single _ _ refl refl refl refl
  refused State m q = single _ _ refl refl refl refl

  ran : (o : Result ⊤ Stop) (m n : Machine) → Single (onward o m (ended reason.Spent m)) (whole (Ok tt) (result o m) n)
  ran (Ok tt) m n = single _ _ refl refl refl refl
  ran (Err stop.NoWord) m n = single _ _ refl refl refl refl
  ran (Err (stop.Unread Unassigned)) m n = single _ _ refl refl refl refl
  ran (Err (stop.Unread LeftOut)) m n = single _ _ refl refl refl refl
  ran (Err (stop.Unread Other)) m n = single _ _ refl refl refl refl
  ran (Err stop.BranchInSlot) m n = single _ _ refl refl refl refl
  ran (Err stop.SwitchedOff) m n = single _ _ refl refl refl refl
  ran (Err (stop.NoWindow x)) m n = single _ _ refl refl refl refl
  ran (Err (stop.ReadOnly x)) m n = single _ _ refl refl refl refl
  ran (Err (stop.Trap x)) m n = single _ _ refl refl refl refl

  admits : (p : List ℕ) (e : Env) (m : Machine) (s : Result ⊤ Refusal)
      → Single (admitted s (runs p e 1 m) m) (whole s (step_of p e m) m)
  unfolding runs
  admits p e m (Ok tt) = ran (step_of p e m).outcome (step_of p e m).after m
  admits p e m (Err x) = refused x m (step_of p e m)

  pub steps-to : (p : List ℕ) (e : Env) (m : Machine) → Single (whole_run p e 1 m) (whole_step p e m)
  steps-to p e m = admits p e m (refusal p e m)

-- the number n and the kind k of what the machine answers
pub explains : (s a : Cause) (n k : ℕ) → WhyIs s a → n ≡ answer_number a.answer → k ≡ answer_kind a.answer
    → record { number = n; kind = k; word = a.word; fact = a.fact } ≡ explained s
explains s a n k i e f =
    (λ j. record { number = e j; kind = f j; word = a.word; fact = a.fact }) ∙ ap explained (why-is i)
