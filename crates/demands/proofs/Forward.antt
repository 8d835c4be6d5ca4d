-- No run goes on for longer than there are words ahead: by induction on the steps, with the words from the counter on,
-- and from a taken target on. Assumes nothing.
use mathlib.Core.Path.{◌≡◌, refl, sym, ap, ◌∙◌}
use mathlib.Core.Bool.{Bool, true, false}
use mathlib.Core.List.{List}
use Prim.Native.Nat.{ℕ, ◌+◌, ◌-◌, ◌*◌, ◌%◌, ◌^◌, ◌≤◌, ◌<◌}
use native.Mathlib.Omega.{arith}
use borrow.Author.Tests.{lt-ltb}
use lib.Dec.{lit≤}
use lib.ListN.{length}
use Rattle.isa.specs.declared.Instr.{Instr}
use Rattle.isa.specs.declared.Instr.TheVariants as instr
use Rattle.std.specs.Prelude.{Ok, Err, Result, ⊤}
use Rattle.state.specs.declared.setup.Refusal.{Refusal}
use Rattle.element.specs.Value.{signed, wrap}
use Rattle.element.proofs.Diff.{by_order}
use Rattle.plan.specs.declared.Plan.{Plan}
use Rattle.plan.specs.declared.Plan.TheVariants as plan
use Rattle.plan.specs.Numbers.{target}
use Rattle.plan.specs.Plan.{plan_of, marked}
use Rattle.reading.specs.Reading.{read_of}
use Rattle.state.specs.declared.control.Control.{Control}
use Rattle.state.specs.declared.control.Mark.{Mark}
use Rattle.state.specs.declared.control.Mark.TheVariants.{Clear, NotTaken, Taken}
use Rattle.state.specs.declared.stops.Stop.TheVariants.{BranchInSlot}
use Rattle.state.specs.Machine.{Env, Machine}
use Rattle.state.specs.Setup.{refusal}
use Rattle.state.proofs.SetupLaws.{program-small, program-accepted}
use Rattle.machine.specs.declared.run.Reason.{Reason}
use Rattle.machine.specs.declared.run.Reason.TheVariants as reason
use Rattle.machine.specs.Effect.{pc_after, control_after}
use Rattle.machine.specs.Run.{whole_run}
use Rattle.machine.specs.Step.{outcome_of, step_of}
use Rattle.demands.specs.AtCounter.{IsBranch, format, whole, offset_of, AtWord, StandsAt}
use Rattle.demands.specs.Demand1.{Steps, none, more, Why, spent, stopped}
use Rattle.demands.specs.Forward.{words, AtLeastOne, Forward, Starts, StopsWithin}
use Rattle.demands.specs.Forward.{ForwardSteps, ForwardStops, ForwardRun}
use Rattle.demands.specs.Tables.{Not, little}
use Rattle.demands.proofs.Demand1.{accepted-run, refused-run}
use Rattle.demands.proofs.Demand2.{finished-step}
use Rattle.demands.proofs.Kept.{Within, planned-within}
use Rattle.demands.proofs.Reasons.{fetched-word}

-- the target of a branch that goes forward
target_ahead : (pc offset : ℕ) → AtLeastOne offset → target pc offset ≡ (pc + 4 + offset * 4) % 2 ^ 64
unfolding target signed wrap
target_ahead pc offset h = rw (lt-ltb offset (2 ^ 15) h.1)

-- an address k words from base, modulo 2^64, is at no other word: what wraps is below base
lands : (base k j : ℕ) → k < 2 ^ 20 → j < 2 ^ 20 → (base + 4 * k) % 2 ^ 64 ≡ base + 4 * j → k ≡ j
lands base k j a b q = by_order (base + 4 * k) (2 ^ 64) (λ l. omega arith) (λ l. omega arith)

module _ (p : List ℕ) (e : Env) (small : length p ≤ 262144) (forward : Forward p) where
  abbrev base : ℕ
  base = e.board.program

  -- from the address x on there are at most r words
  abbrev Room : ℕ → ℕ → Type 0
  Room x r = (i : ℕ) → AtWord p base x i → words p ≤ i + r

  -- a run that is to finish at most r instructions more, by its slot mark and its counter: the word in the slot of a
  -- branch that is taken, and then those from the target on
  abbrev Ahead : Mark → ℕ → ℕ → Type 0
  Ahead Clear pc r = Room pc r
  Ahead NotTaken pc r = Room pc r
  Ahead (Taken t) pc r = Room pc r × Room t (r - 1)

  here : (k : Mark) (pc r : ℕ) → Ahead k pc r → Room pc r
  here Clear pc r h = h
  here NotTaken pc r h = h
  here (Taken t) pc r h = h.0

  -- the step at word i, counter pc
  module _ (pc i r : ℕ) (at : AtWord p base pc i) where
    -- d words on
    later : (d : ℕ) → d ≤ 2 ^ 15 → Room pc r → Room ((pc + 4 * d) % 2 ^ 64) (r - d)
    later d l h j a =
        let x : pc + 4 * d ≡ base + 4 * (i + d) = omega (arith, at) in
        let k : i + d ≡ j =
        lands base (i + d) j (omega (arith, at, small)) (omega (arith, a, small))
        (ap (λ y. y % 2 ^ 64) (sym x) ∙ a.1)
        in
        omega (arith, h i at)

    moved : (k : Mark) → Ahead k pc r → Room (pc_after k pc) (r - 1)
    moved Clear h = later 1 (lit≤ tt) h
    moved NotTaken h = later 1 (lit≤ tt) h
    moved (Taken t) h = h.1

    beyond : Room pc r → (offset : ℕ) → AtLeastOne offset → Room (target pc offset) (r - 1 - 1)
    beyond h offset f j a =
        let x : pc + 4 + offset * 4 ≡ pc + 4 * (1 + offset) = omega arith in
        let t = target_ahead pc offset f ∙ ap (λ y. y % 2 ^ 64) x in
        let one : 1 ≤ offset = f.0 in
        omega (arith, later (1 + offset) (omega (arith, f)) h j (a.0, sym t ∙ a.1))

    branched : Room pc r → (offset : ℕ) → AtLeastOne offset → (taken? : Bool)
        → Ahead (marked taken? (target pc offset)) ((pc + 4) % 2 ^ 64) (r - 1)
    branched h offset f true = (later 1 (lit≤ tt) h, beyond h offset f)
    branched h offset f false = later 1 (lit≤ tt) h

  -- a branch whose slot mark is set stops
  in-slot : (m : Machine) (t : ℕ) (x : Instr) → IsBranch x → m.ctl.mark ≡ Taken t
      → outcome_of (plan_of e m x) ≡ Err BranchInSlot
  unfolding plan_of
  in-slot m t x format q = rw q
  in-slot m t x whole q = rw q

  abbrev AheadOf : Control → ℕ → Type 0
  AheadOf c r = Ahead c.mark c.pc r

  -- the instruction x at word i
  module _ (m : Machine) (i r : ℕ) (at : StandsAt p e m i) (x : Instr)
      (reads : read_of (little p (4 * i) 4) ≡ Ok x) (h : AheadOf m.ctl r) where
    abbrev pc : ℕ
    pc = m.ctl.pc

    on : AheadOf (control_after plan.Nothing m.ctl) (r - 1)
    on = moved pc i r at m.ctl.mark h

    branch-on : (k : Mark) → Within pc x (plan.Branch k) → plan_of e m x ≡ plan.Branch k
        → AheadOf (control_after (plan.Branch k) m.ctl) (r - 1)
    branch-on k (b, taken?, is) q = go m.ctl.mark refl h
      where
        ahead : AtLeastOne (offset_of b)
        ahead = forward i x at.0 reads b

        go : (found : Mark) → m.ctl.mark ≡ found → Ahead found pc r → Ahead k (pc_after found pc) (r - 1)
        go Clear f g = rw is (branched pc i r at g (offset_of b) ahead taken?)
        go NotTaken f g = rw is (branched pc i r at g (offset_of b) ahead taken?)
        go (Taken t) f g =
            let clash : (Ok tt) ≡ Err BranchInSlot = sym (ap outcome_of q) ∙ in-slot m t x b f in
            let z : ◌≡◌ {A = ℕ} 0 1 = cc in
            absurd (omega arith)

    plan-on : (q : Plan) → plan_of e m x ≡ q → Within pc x q → outcome_of q ≡ Ok tt
        → AheadOf (control_after q m.ctl) (r - 1)
    plan-on (plan.Stop s) f w done = let z : ◌≡◌ {A = ℕ} 0 1 = cc in absurd (omega arith)
    plan-on plan.Nothing f w done = on
    plan-on (plan.Vector v y) f w done = on
    plan-on (plan.General g y) f w done = on
    plan-on (plan.Store a y) f w done = on
    plan-on (plan.Csr y) f w done = on
    plan-on (plan.Branch k) f w done = branch-on k w f

  -- a finished step leaves one instruction less
  step-on : (m : Machine) (r : ℕ) → AheadOf m.ctl r → (step_of p e m).outcome ≡ Ok tt
      → (1 ≤ r) × AheadOf (step_of p e m).after.ctl (r - 1)
  step-on m r h done =
      let s = finished-step p e m done in
      let w = fetched-word p e m s.there in
      let at = w.holds.0 in
      let reads = ap read_of (sym w.holds.1) ∙ s.reads in
      let some = here m.ctl.mark m.ctl.pc r h w.number at in (
        omega (arith, some, at),
        rw s.after
            (plan-on m w.number r at s.instruction reads h (plan_of e m s.instruction) refl
            (planned-within e m s.instruction) s.finishes),
      )

  steps-within : (r k : ℕ) (m m' : Machine) → AheadOf m.ctl r → Steps p e k m m' → k ≤ r
  steps-within r k m m' h none = omega arith
  steps-within r k m m' h (more done s) =
      let one = step-on m r h done in
      let rest = steps-within (r - 1) _ _ m' one.1 s in
      omega (arith, one.0, rest)

  start-ahead : (m : Machine) (i : ℕ) → Starts p e m i → AheadOf m.ctl (words p - i)
  start-ahead m i s = rw s.clear (λ j a. omega (arith, s.at, a))

pub forward-steps : ForwardSteps
forward-steps p e m m' i k forward s steps =
    let small = program-small e.board.program (length p) (program-accepted p e m s.ok) in
    steps-within p e small forward (words p - i) k m m' (start-ahead p e small forward m i s) steps

-- where fewer than b steps can be finished, a run finishes fewer, and does not spend a budget of b
pub short-run : (p : List ℕ) (e : Env) (m : Machine) (b budget : ℕ) → 0 < b
    → (refusal p e m ≡ Ok tt → (k : ℕ) (m' : Machine) → Steps p e k m m' → k < b)
    → ((whole_run p e budget m).count < b) × (b ≤ budget → Not ((whole_run p e budget m).reason ≡ reason.Spent))
short-run p e m b budget some few = go (refusal p e m) refl
  where
    unspent : {count : ℕ} {m' : Machine} {r : Reason} → Why p e budget count m' r → count < budget
        → Not (r ≡ reason.Spent)
    unspent (spent h) l q = omega arith
    unspent (stopped s h k) l q = let z : ◌≡◌ {A = ℕ} 0 1 = cc in omega arith

    go : (s : Result ⊤ Refusal) → refusal p e m ≡ s
        → ((whole_run p e budget m).count < b) × (b ≤ budget → Not ((whole_run p e budget m).reason ≡ reason.Spent))
    go (Ok tt) a =
        let ends = accepted-run p e budget m a in
        let count = few a _ _ ends.steps in
        (count, λ l. unspent ends.why (omega arith))
    go (Err r) a = rw (refused-run p e budget m r a) (some, λ l q. let z : ◌≡◌ {A = ℕ} 0 1 = cc in omega arith)

pub forward-run : ForwardRun
forward-run p e m i budget forward s =
    let short =
    short-run p e m (words p - i + 1) budget (omega arith)
    (λ a k m' t. let n = forward-steps p e m m' i k forward s t in omega arith)
    in
    record { count = omega (arith, short.0); unspent = short.1 }

pub forward-stops : ForwardStops
forward-stops p e m i forward s =
    let ends = accepted-run p e (words p - i + 1) m s.ok in
    go (forward-steps p e m _ i _ forward s ends.steps) ends.steps ends.why
  where
    go : {count : ℕ} {after : Machine} {x : Reason} → count ≤ words p - i → Steps p e count m after
        → Why p e (words p - i + 1) count after x → StopsWithin p e m (words p - i)
    go w t (spent h) = absurd (omega arith)
    go w t (stopped stop h k) = record { count = _; within = w; after = _; steps = t; stop = stop; stops = k }
