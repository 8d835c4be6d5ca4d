-- What a call of the second engine's C entry comes to: one of the limits, 51, or a run. Assumes nothing.
use mathlib.Core.Path.{◌≡◌, refl, ap, subst, ◌∙◌}
use mathlib.Core.Bool.{Bool, true, false}
use mathlib.Core.List.{List}
use Prim.Native.Nat.{ℕ, ◌*◌, ◌/◌, ◌≤◌, ◌<◌}
use native.Mathlib.Omega.{arith}
use borrow.Author.Tests.{ltb-true, ltb-false}
use lib.Dec.{ltb}
use lib.ListN.{length, get_or}
use Rattle.state.specs.declared.setup.Refusal.{Refusal}
use Rattle.std.specs.Prelude.{Ok, Err, Result, ⊤}
use Rattle.state.specs.Machine.{Env, Machine}
use Rattle.state.specs.Numbers.{refusal_number}
use Rattle.state.specs.Setup.{refusal}
use Rattle.state.proofs.SetupLaws.{program-accepted}
use Rattle.machine.specs.declared.run.Reason.TheVariants as reason
use Rattle.machine.specs.Run.{admitted, ended, runs}
use Rattle.entries.specs.Listed.{entry_at, listed}
use Rattle.entries.proofs.ListedLaws.{held}
use Rattle.entry.specs.declared.MsaEnded.{MsaEnded}
use Rattle.entry.specs.Entry.{RunsTo}
use Rattle.listed.specs.Run.{unless_short, after_limits, listed_run}
use Rattle.listed.proofs.FilledLaws.{stands}
use Rattle.entry_read.specs.Entry.{ShortIs}
use Rattle.demands.specs.Tables.{Not}
use Rattle.demands.proofs.Demand1.{refused-run}
use Rattle.entry_demands.specs.Calls.{Given, Lent, env_of, machine_of, Call}
use Rattle.read_demands.specs.Answers.{Short, Refuses}
use Rattle.read_demands.specs.Calls.{ReadCall}

abbrev pub setup_of : Given → Lent → Result ⊤ Refusal
setup_of g x = refusal g.program (env_of g x) (machine_of x)

pub data Comes (g : Given) (budget : ℕ) (x : Lent) (list : List ℕ) (r : MsaEnded) (y : Lent) (list' : List ℕ) :
    Type 0 where
  refused : (u : Refusal) → setup_of g x ≡ Err u → Call g budget x r y → list' ≡ list
      → Comes g budget x list r y list'
  too_short : setup_of g x ≡ Ok tt → Short g.program list → Refuses 51 x list r y list'
      → Comes g budget x list r y list'
  ran : setup_of g x ≡ Ok tt → Not (Short g.program list) → Call g budget x r y
      → list' ≡ listed g.program list (length g.program / 4) → Comes g budget x list r y list'

-- lent bytes are one where their parts are
pub same-lent : (x y : Lent) → y.vec ≡ x.vec → y.gen ≡ x.gen → y.work ≡ x.work → y.control ≡ x.control → y ≡ x
same-lent x y v g w b = λ t. record { vec = v t; gen = g t; work = w t; control = b t }

module _ (p : List ℕ) (e : Env) (budget : ℕ) (m : Machine) (list : List ℕ) where
  unless-runs : (t : Bool) → (unless_short t p e budget m list).short ≡ false
      → (unless_short t p e budget m list).run ≡ runs p e budget m
  unless-runs true h = let z : ◌≡◌ {A = ℕ} 0 1 = cc in absurd (omega arith)
  unless-runs false h = refl

  -- where 51 is not the answer, the run is that of the first engine
  same-run : (q : Result ⊤ Refusal) → (after_limits q p e budget m list).short ≡ false
      → (after_limits q p e budget m list).run ≡ admitted q (runs p e budget m) m
  same-run (Ok tt) h = unless-runs (ltb (length list) (length p / 4)) h
  same-run (Err u) h = refl

few : (p list : List ℕ) → length list < length p / 4 → Short p list
few p list h = omega arith

enough : (p : List ℕ) (e : Env) (m : Machine) (list : List ℕ) → refusal p e m ≡ Ok tt
    → length p / 4 ≤ length list → Not (Short p list)
enough p e m list ok h k =
    let whole = (stands e.board.program p (program-accepted p e m ok)).words in
    omega (arith, whole, h, k)

module _ (g : Given) (budget : ℕ) (x y : Lent) (list list' : List ℕ) (r : MsaEnded) where
  abbrev p : List ℕ
  p = g.program

  abbrev e : Env
  e = env_of g x

  abbrev m : Machine
  m = machine_of x

  short-refuses : ShortIs m r y.vec y.gen y.work x.control y.control → list' ≡ list
      → Refuses 51 x list r y list'
  short-refuses i l =
      record {
        reason = i.reason;
        count = i.count;
        missing = i.missing;
        lent = same-lent x y i.vec i.gen i.work i.control;
        entries = l;
      }

  -- one of the limits changes nothing
  pub limit-refuses : (u : Refusal) → refusal p e m ≡ Err u → Call g budget x r y → list' ≡ list
      → Refuses (refusal_number u) x list r y list'
  limit-refuses u h i l =
      let j : RunsTo (ended (reason.Refused u) m) r y.vec y.gen y.work x.control y.control =
      subst (λ s. RunsTo s r y.vec y.gen y.work x.control y.control) (refused-run p e budget m u h) i in
      record {
        reason = j.reason;
        count = j.count;
        missing = j.missing;
        lent = same-lent x y j.vec j.gen j.work j.control;
        entries = l;
      }

  pub comes : ReadCall g budget x list r y list' → Comes g budget x list r y list'
  comes i = go (refusal p e m) refl (ltb (length list) (length p / 4)) refl
    where
      called : (listed_run p e budget m list).short ≡ false → Call g budget x r y
      called h =
          subst (λ s. RunsTo s r y.vec y.gen y.work x.control y.control)
          (same-run p e budget m list (refusal p e m) h) (i.ran h)

      go : (q : Result ⊤ Refusal) → refusal p e m ≡ q → (t : Bool) → ltb (length list) (length p / 4) ≡ t
          → Comes g budget x list r y list'
      go (Err u) h t k =
          let is = ap (λ q. after_limits q p e budget m list) h in
          refused u h (called (ap (λ s. s.short) is)) (i.list ∙ ap (λ s. s.list) is)
      go (Ok tt) h true k =
          let is = ap (λ q. after_limits q p e budget m list) h ∙ ap (λ t. unless_short t p e budget m list) k in
          let f : ShortIs m r y.vec y.gen y.work x.control y.control =
          subst (λ s. ShortIs s.run.after r y.vec y.gen y.work x.control y.control) is
          (i.short (ap (λ s. s.short) is)) in
          too_short h (few p list (ltb-true (length list) (length p / 4) k))
          (short-refuses f (i.list ∙ ap (λ s. s.list) is))
      go (Ok tt) h false k =
          let is = ap (λ q. after_limits q p e budget m list) h ∙ ap (λ t. unless_short t p e budget m list) k in
          ran h (enough p e m list h (ltb-false (length list) (length p / 4) k)) (called (ap (λ s. s.short) is))
          (i.list ∙ ap (λ s. s.list) is)

  -- after a run, the entry of each of the program's words is there
  pub filled_at : refusal p e m ≡ Ok tt → Not (Short p list) → list' ≡ listed p list (length p / 4)
      → (i : ℕ) → 4 * i < length p → get_or list' i 0 ≡ entry_at p i
  filled_at ok n l i h =
      let whole = (stands e.board.program p (program-accepted p e m ok)).words in
      let below : i < length p / 4 = omega (arith, whole, h) in
      ap (λ k. get_or k i 0) l ∙ held p list (length p / 4) i below (omega (arith, n))
