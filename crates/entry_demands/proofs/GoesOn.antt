-- Two calls as one. The first leaves the bytes of the block that it ended with, or with budget 0 every byte as it was;
-- they read as that block, and from there the run goes on (`goes_on`). Assumes nothing.
use mathlib.Core.Path.{◌≡◌, refl, sym, ap, subst, ◌∙◌}
use mathlib.Core.Bool.{cond}
use mathlib.Core.List.{List}
use Prim.Native.Nat.{ℕ, zero, suc, ◌+◌, ◌<◌}
use native.Mathlib.Nat.{zero-add}
use native.Mathlib.Omega.{arith}
use borrow.Author.Tests.{eq-eqb, lt-ltb}
use lib.Dec.{ltb}
use lib.ListN.{length, get_or}
use Rattle.memory.specs.Bytes.{AreBytes}
use Rattle.state.specs.declared.control.Control.{Control}
use Rattle.std.specs.Prelude.{Ok, Err, Result, ⊤}
use Rattle.state.specs.declared.setup.Refusal.{Refusal}
use Rattle.state.specs.Machine.{Env, Machine}
use Rattle.state.specs.Setup.{refusal}
use Rattle.machine.specs.declared.run.Reason.{Reason}
use Rattle.machine.specs.declared.run.Reason.TheVariants as reason
use Rattle.machine.specs.Numbers.{reason_number}
use Rattle.machine.specs.Run.{Run, adding, admitted, runs, whole_run}
use Rattle.machine.proofs.RunLaws.{same-machine}
use Rattle.entry.specs.declared.MsaEnded.{MsaEnded}
use Rattle.entry.specs.Block.{decoded, ordered, encoded, written}
use Rattle.entry.specs.Entry.{RunsTo}
use Rattle.entry.specs.Layout.{InRange}
use Rattle.entry.proofs.LayoutLaws.{round_trip}
use Rattle.demands.specs.Demand1.{Steps, none, more, Why, spent, stopped, Ends}
use Rattle.demands.proofs.Answers.{Reasoned, spends, fewer, reasoned}
use Rattle.demands.proofs.Demand1.{accepted-run, refused-run}
use Rattle.demands.proofs.GoesOn.{goes_on}
use Rattle.demands.proofs.Kept.{steps-accepted}
use Rattle.entry_demands.specs.Calls.{Given, Lent, env_of, machine_of, Call}
use Rattle.entry_demands.specs.GoesOn.{GoesOnCalled}
use Rattle.entry_demands.proofs.Order.{long, run-keeps-order, same-order, same-env}
use Rattle.entry_demands.proofs.Range.{decoded-in-range, run-in-range}

-- no other reason has the number 20
pub twenty : (r : Reason) → Reasoned r → reason_number r ≡ 20 → r ≡ reason.Spent
twenty r spends h = refl
twenty r (fewer l u) h = absurd (omega arith)

-- and no refused run has it
admits : (q : Result ⊤ Refusal) (r : Run) (m : Machine) → (admitted q r m).reason ≡ reason.Spent → q ≡ Ok tt
admits (Ok tt) r m h = refl
admits (Err x) r m h = let z : ◌≡◌ {A = ℕ} 0 1 = cc in absurd (omega arith)

-- the bytes of a block after a call of this count that ends with c
abbrev settled : ℕ → Control → List ℕ → List ℕ
settled count c b = cond (ltb 0 count) (written c b) b

settled-some : (b : List ℕ) (n : ℕ) (c : Control) → length b ≡ 24 → 0 < n → settled n c b ≡ encoded (ordered b) c
unfolding written
settled-some b n c l h = rw (lt-ltb 0 n h, eq-eqb (length b) 24 l)

-- they read as c
settled_back : (b : List ℕ) (n : ℕ) (c : Control) → length b ≡ 24 → InRange c → (n ≡ 0 → c ≡ decoded b)
    → decoded (settled n c b) ≡ c
settled_back b zero c l i h = sym (h refl)
settled_back b (suc n) c l i h = ap decoded (settled-some b (suc n) c l (omega arith)) ∙ (round_trip (ordered b) c i).0

-- after two calls they are as after one
settled-twice : (b b' : List ℕ) (n k : ℕ) (c d : Control) → length b ≡ 24 → length b' ≡ 24 → b' ≡ settled n c b
    → ordered b' ≡ ordered b → (k ≡ 0 → d ≡ c) → settled (n + k) d b ≡ settled k d b'
settled-twice b b' zero k c d l l' e o h = ap (λ x. settled x d b) (zero-add k) ∙ ap (settled k d) (sym e)
settled-twice b b' (suc n) zero c d l l' e o h =
    let was : b' ≡ encoded (ordered b) c = e ∙ settled-some b (suc n) c l (omega arith) in
    settled-some b (suc n + 0) d l (omega arith) ∙ ap (encoded (ordered b)) (h refl) ∙ sym was
settled-twice b b' (suc n) (suc k) c d l l' e o h =
    settled-some b (suc n + suc k) d l (omega arith)
    ∙ ap (λ q. encoded q d) (sym o)
    ∙ sym (settled-some b' (suc k) d l' (omega arith))

-- an accepted run with count 0 keeps the block; one that ends with 20 has its budget for its count
no_steps : {p : List ℕ} {e : Env} {n : ℕ} {m m' : Machine} → Steps p e n m m' → n ≡ 0 → m'.ctl ≡ m.ctl
no_steps none h = refl
no_steps (more s t) h = absurd (omega arith)

spent-count : {p : List ℕ} {e : Env} {budget count : ℕ} {m : Machine} {r : Reason} → Why p e budget count m r
    → r ≡ reason.Spent → count ≡ budget
spent-count (spent h) e = h
spent-count (stopped s h k) e = let z : ◌≡◌ {A = ℕ} 0 1 = cc in absurd (omega arith)

-- the bytes that a call has left hold the machine that its run ended with
module _ (g : Given) (n : ℕ) (x : Lent) (bytes : AreBytes x.control) where
  abbrev p : List ℕ
  p = g.program

  abbrev e : Env
  e = env_of g x

  abbrev run : Run
  run = whole_run p e n (machine_of x)

  settled-reads : (q : Result ⊤ Refusal) → refusal p e (machine_of x) ≡ q
      → decoded (settled run.count run.after.ctl x.control) ≡ run.after.ctl
  settled-reads (Ok tt) h =
      settled_back x.control run.count run.after.ctl (long p e x h)
      (run-in-range p e n (machine_of x) (decoded-in-range x.control bytes))
      (no_steps (accepted-run p e n (machine_of x) h).steps)
  settled-reads (Err u) h = rw (refused-run p e n (machine_of x) u h)

  pub left-machine : (a : MsaEnded) (y : Lent) → Call g n x a y → machine_of y ≡ run.after
  left-machine a y i =
      let control = ap decoded i.control ∙ settled-reads (refusal p e (machine_of x)) refl in
      sym (same-machine run.after y.vec y.gen y.work (decoded y.control) i.vec i.gen
      i.work control)

-- what the first call has left
record Left (g : Given) (n : ℕ) (x y : Lent) : Type 0 where
  accepted : refusal g.program (env_of g x) (machine_of x) ≡ Ok tt
  ends : (whole_run g.program (env_of g x) n (machine_of x)).reason ≡ reason.Spent
  control : y.control ≡ settled n (whole_run g.program (env_of g x) n (machine_of x)).after.ctl x.control
  order : get_or y.control 23 0 ≡ get_or x.control 23 0
  machine : machine_of y ≡ (whole_run g.program (env_of g x) n (machine_of x)).after

left : (g : Given) (n : ℕ) (a : MsaEnded) (x y : Lent) → AreBytes x.control → Call g n x a y → a.reason ≡ 20
    → Left g n x y
left g n a x y bytes i h =
    let p = g.program in
    let e = env_of g x in
    let m : Machine = machine_of x in
    let r : Run = whole_run p e n m in
    let ends : r.reason ≡ reason.Spent = twenty r.reason (reasoned r.reason) (sym i.reason ∙ h) in
    let ok : refusal p e m ≡ Ok tt = admits (refusal p e m) (runs p e n m) m ends in
    let all : r.count ≡ n = spent-count (accepted-run p e n m ok).why ends in
    record {
      accepted = ok;
      ends = ends;
      control = i.control ∙ ap (λ q. settled q r.after.ctl x.control) all;
      order = run-keeps-order g n x y a i;
      machine = left-machine g n x bytes a y i;
    }

-- a call for the run s
abbrev Leaves : Run → Lent → MsaEnded → Lent → Type 0
Leaves s x r y = RunsTo s r y.vec y.gen y.work x.control y.control

-- the second call goes on from there, and so does the one for both
pub goes-on-called : GoesOnCalled
goes-on-called g n k a b c x y z z' bytes i h j l =
    let p = g.program in
    let e = env_of g x in
    let first : Left g n x y = left g n a x y bytes i h in
    let steps = (accepted-run p e n (machine_of x) first.accepted).steps in
    let m : Machine = (whole_run p e n (machine_of x)).after in
    let s : Run = whole_run p e k m in
    let ok : refusal p e m ≡ Ok tt = steps-accepted p e _ (machine_of x) m steps first.accepted in
    let on = goes_on p e n k (machine_of x) first.accepted first.ends in
    let there : Leaves (whole_run p e k (machine_of y)) y b z =
    subst (λ f. Leaves (whole_run p f k (machine_of y)) y b z) (same-env g x y first.order) j in
    let second : Leaves s y b z = subst (λ q. Leaves (whole_run p e k q) y b z) first.machine there in
    let both : Leaves (adding n s) x c z' = subst (λ q. Leaves q x c z') on l in
    let sx = long p e x first.accepted in
    let sy = long p e y (ap (refusal p e) first.machine ∙ ok) in
    let order = same-order x.control y.control first.order in
    let kept = no_steps (accepted-run p e k m ok).steps in
    let d : Control = s.after.ctl in
    let twice = settled-twice x.control y.control n s.count m.ctl d sx sy first.control order kept in
    let vec : z'.vec ≡ z.vec = both.vec ∙ sym second.vec in
    let gen : z'.gen ≡ z.gen = both.gen ∙ sym second.gen in
    let work : z'.work ≡ z.work = both.work ∙ sym second.work in
    let control : z'.control ≡ z.control = both.control ∙ twice ∙ sym second.control in
    let same : z' ≡ z = λ t. record { vec = vec t; gen = gen t; work = work t; control = control t } in
    let number : c.reason ≡ b.reason = both.reason ∙ sym second.reason in
    let count : c.count ≡ n + b.count = both.count ∙ ap (λ q. n + q) (sym second.count) in
    let missing : c.missing ≡ b.missing = both.missing ∙ sym second.missing in
    (λ t. record { reason = number t; count = count t; missing = missing t }, same)
