-- No call changes the byte order. A block that is written is one of the layout, or the call would have been refused: so
-- its order has the number that is written. Assumes nothing.
use mathlib.Core.Path.{◌≡◌, refl, sym, ap, ◌∙◌}
use mathlib.Core.Bool.{Bool, true, false, cond, ◌&&◌}
use mathlib.Core.List.{List}
use Prim.Native.Nat.{ℕ, zero, suc, ◌≤◌, ◌<◌}
use native.Mathlib.Omega.{arith}
use borrow.Author.Tests.{eqb-true, leb-true, ltb-true, eq-eqb}
use lib.Dec.{eqb, leb, ltb}
use lib.ListN.{length}
use Rattle.order.specs.declared.Order.TheVariants.{Little, Big}
use Rattle.state.specs.declared.control.Control.{Control}
use Rattle.std.specs.Prelude.{Ok, Err, Result, ⊤}
use Rattle.state.specs.declared.setup.Refusal.{Refusal}
use Rattle.state.specs.Machine.{Env, Machine}
use Rattle.state.specs.Setup.{refusal}
use Rattle.state.proofs.TestLaws.{and_left, and_right}
use Rattle.machine.specs.Numbers.{answer_number}
use Rattle.machine.specs.Run.{Run, admitted, runs, whole_run}
use Rattle.machine.specs.Step.{Ending, whole, step_of, whole_step}
use Rattle.entry.specs.Block.{field, byte, decoded, ordered, order_number, written}
use Rattle.entry.specs.Layout.{in_layout, or_five}
use Rattle.entry.proofs.LayoutLaws.{outside-refused, order-written}
use Rattle.demands.proofs.Answers.{refusal-between}
use Rattle.entry_demands.specs.Calls.{Given, Lent, env_of, machine_of}
use Rattle.entry_demands.specs.Order.{StepKeepsOrder, RunKeepsOrder}

-- ---- a block that is accepted is one of the layout

not_five : (q : Result ⊤ Refusal) → or_five q ≡ Ok tt → ⊥
not_five (Ok tt) h = let z : ◌≡◌ {A = ℕ} 0 1 = cc in omega arith
not_five (Err x) h = let z : ◌≡◌ {A = ℕ} 0 1 = cc in omega arith

module _ (p : List ℕ) (e : Env) (x : Lent) (ok : refusal p e (machine_of x) ≡ Ok tt) where
  pub in-layout : in_layout x.control ≡ true
  in-layout = go (in_layout x.control) refl
    where
      go : (t : Bool) → in_layout x.control ≡ t → t ≡ true
      go true h = refl
      go false h =
          let five = outside-refused p e x.vec x.gen x.work x.control (decoded x.control) h in
          absurd (not_five (refusal p e (machine_of x)) (sym five ∙ ok))

-- it has 24 bytes, and an order of 0 or 1
ends : (l m s o : Bool) → l && m && s && o ≡ true → (l ≡ true) × (o ≡ true)
ends l m s o h = (and_left l m (and_left (l && m) s (and_left (l && m && s) o h)), and_right (l && m && s) o h)

module _ (b : List ℕ) (h : in_layout b ≡ true) where
  tests : (eqb (length b) 24 ≡ true) × (leb (byte b 23) 1 ≡ true)
  tests = ends (eqb (length b) 24) (leb (field b 20 2) 2) (leb (byte b 22) 1) (leb (byte b 23) 1) h

  sized : length b ≡ 24
  sized = eqb-true _ _ tests.0

  named : byte b 23 ≤ 1
  named = leb-true _ _ tests.1

pub long : (p : List ℕ) (e : Env) (x : Lent) → refusal p e (machine_of x) ≡ Ok tt → length x.control ≡ 24
long p e x ok = sized x.control (in-layout p e x ok)

-- ---- the block keeps its order

-- a number that names an order is the number of that order
number_of : (n : ℕ) → n ≤ 1 → order_number (cond (eqb n 1) Big Little) ≡ n
number_of zero h = refl
number_of (suc zero) h = refl
number_of (suc (suc n)) h = absurd (omega arith)

written_keeps : (c : Control) (b : List ℕ) → in_layout b ≡ true → byte (written c b) 23 ≡ byte b 23
unfolding written ordered
written_keeps c b h =
    rw (eq-eqb _ _ (sized b h)) (order-written (ordered b) c ∙ number_of (byte b 23) (named b h))

settles : (finished : Bool) (c : Control) (b : List ℕ) → (finished ≡ true → in_layout b ≡ true)
    → byte (cond finished (written c b) b) 23 ≡ byte b 23
settles true c b h = written_keeps c b (h refl)
settles false c b h = refl

-- no refused call writes it
finished-accepted : (q : Result ⊤ Refusal) (s : Ending) (m : Machine) → answer_number (whole q s m).answer ≡ 0 → q ≡ Ok tt
finished-accepted (Ok tt) s m h = refl
finished-accepted (Err r) s m h = absurd (omega (arith, (refusal-between r).0))

counted-accepted : (q : Result ⊤ Refusal) (r : Run) (m : Machine) → 0 < (admitted q r m).count → q ≡ Ok tt
counted-accepted (Ok tt) r m h = refl
counted-accepted (Err x) r m h = absurd (omega arith)

pub step-keeps-order : StepKeepsOrder
step-keeps-order g x y r i =
    let p = g.program in
    let e = env_of g x in
    let m = machine_of x in
    let s = whole_step p e m in
    ap (λ b. byte b 23) i.control
    ∙ settles (eqb (answer_number s.answer) 0) s.after.ctl x.control
    (λ t. in-layout p e x (finished-accepted (refusal p e m) (step_of p e m) m (eqb-true _ _ t)))

pub run-keeps-order : RunKeepsOrder
run-keeps-order g budget x y r i =
    let p = g.program in
    let e = env_of g x in
    let m = machine_of x in
    let s = whole_run p e budget m in
    ap (λ b. byte b 23) i.control
    ∙ settles (ltb 0 s.count) s.after.ctl x.control
    (λ t. in-layout p e x (counted-accepted (refusal p e m) (runs p e budget m) m (ltb-true 0 s.count t)))

-- ---- so the next call has the same environment

pub same-order : (b b' : List ℕ) → byte b' 23 ≡ byte b 23 → ordered b' ≡ ordered b
unfolding ordered
same-order b b' h = rw h

pub same-env : (g : Given) (x y : Lent) → byte y.control 23 ≡ byte x.control 23 → env_of g y ≡ env_of g x
same-env g x y h = rw (same-order x.control y.control h)
