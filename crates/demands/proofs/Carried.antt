-- What a stop carries: of an access that stops with 17 the address that the definition finds missing, with 18 the
-- address of its first byte; of a CTCMSA that stops with 19 the bits that arm the trap. Assumes nothing.
use mathlib.Core.Path.{◌≡◌, refl, sym, ap, ◌∙◌}
use mathlib.Core.Bool.{Bool, true, false, cond}
use mathlib.Core.List.{List}
use Prim.Native.Nat.{ℕ, ◌^◌, ◌<◌}
use native.Mathlib.Omega.{arith}
use lib.Dec.{eqb}
use lib.ListN.{length}
use Rattle.isa.specs.declared.Instr.{Instr}
use Rattle.isa.specs.declared.Memory.{Memory}
use Rattle.std.specs.Prelude.{Ok, Err, Result, ⊤}
use Rattle.isa.specs.declared.Vreg.{Vreg}
use Rattle.isa.specs.declared.Width.{Width}
use Rattle.ops.specs.Meaning.{memory_at}
use Rattle.plan.specs.declared.Plan.{Plan}
use Rattle.plan.specs.declared.Plan.TheVariants as plan
use Rattle.plan.specs.Numbers.{address}
use Rattle.plan.specs.Plan.{plan_of, accessed, to_control, general_at, switched_early, unless}
use Rattle.plan.proofs.PlanLaws.{control-cases, access-cases}
use Rattle.state.specs.declared.stops.Stop.{Stop}
use Rattle.state.specs.declared.stops.Stop.TheVariants.{SwitchedOff, Trap}
use Rattle.state.specs.Csr.{masked, arms, arming}
use Rattle.state.specs.Machine.{Env, Machine}
use Rattle.state.specs.Setup.{refusal}
use Rattle.state.specs.Windows.{missing}
use Rattle.state.proofs.Named.{Named, refused, stopped, neither, named, named-stop}
use Rattle.state.proofs.SetupLaws.{accepted}
use Rattle.state.proofs.WindowLaws.{spot-outside}
use Rattle.machine.specs.Numbers.{outcome_number, outcome_carried}
use Rattle.machine.specs.Step.{step_of, outcome_of}
use Rattle.demands.specs.AtCounter.{Accesses, at, SetsCsr, to, general, ReadsAs}
use Rattle.demands.proofs.Reasons.{general-at, step-plans, below, accesses, accessing}

-- ---- an outcome by its number

abbrev pub as_outcome : Named → Result ⊤ Stop
as_outcome (refused r) = Ok tt
as_outcome (stopped s) = Err s
as_outcome neither = Ok tt

outcome-back : (o : Result ⊤ Stop) → as_outcome (named (outcome_number o) (outcome_carried o)) ≡ o
outcome-back (Ok tt) = refl
outcome-back (Err s) = ap as_outcome (named-stop s)

pub outcome-is : (o : Result ⊤ Stop) (k : ℕ) → outcome_number o ≡ k → o ≡ as_outcome (named k (outcome_carried o))
outcome-is o k h = sym (outcome-back o) ∙ ap (λ n. as_outcome (named n (outcome_carried o))) h

-- ---- a load or store at a

module _ (e : Env) (m : Machine) where
  abbrev pub missing_from : ℕ → ℕ
  missing_from a = missing e.board (length e.table) (length m.work) a

  abbrev pub Carrying : ℕ → Result ⊤ Stop → Type 0
  Carrying a o =
      (outcome_number o ≡ 17 → outcome_carried o ≡ missing_from a) × (outcome_number o ≡ 18 → outcome_carried o ≡ a)

  -- an outcome with neither number
  silent : (a : ℕ) (o : Result ⊤ Stop) → (outcome_number o ≡ 17 → ⊥) → (outcome_number o ≡ 18 → ⊥) → Carrying a o
  silent a o n k = (λ h. absurd (n h), λ h. absurd (k h))

  finished : (a : ℕ) → Carrying a (Ok tt)
  finished a = silent a (Ok tt) (λ h. omega arith) (λ h. omega arith)

  accessed-carrying : (o : Memory) (df : Width) (wd : Vreg) (a : ℕ)
      → Carrying a (outcome_of (accessed o df e.board e.table m.vec m.work wd a))
  accessed-carrying o df wd a =
      access-cases (λ q. Carrying a (outcome_of q)) df e.board e.table m.vec m.work wd a
      (λ x. finished a) (λ i v p. finished a) (λ h. absurd (omega arith), λ h. refl)
      (λ x p. (
        λ h. spot-outside e.board (length e.table) (length m.work) a x p,
        λ h. absurd (omega arith),
      ))
      o

  switched-carrying : (on : Bool) (a : ℕ) (q : Plan) → Carrying a (outcome_of q)
      → Carrying a (outcome_of (unless (switched_early on) q))
  switched-carrying true a q h = h
  switched-carrying false a q h = silent a (Err SwitchedOff) (λ k. omega arith) (λ k. omega arith)

pub access-map : {m : Machine} {i : Instr} {f g : Memory → ℕ → Type 0} → ((o : Memory) (a : ℕ) → f o a → g o a)
    → Accesses m f i → Accesses m g i
access-map h (at q) = at (h _ _ q)

-- the access at the counter, beside what is known of it
pub access-carries : (p : List ℕ) (e : Env) (m : Machine) → refusal p e m ≡ Ok tt
    → {i : Instr} {f : Memory → ℕ → Type 0} → ReadsAs p e m (Ok i) → Accesses m f i
    → Accesses m (λ o a. f o a × (a < 2 ^ 64) × Carrying e m a (step_of p e m).outcome) i
unfolding plan_of
access-carries p e m ok {f = f} here (at {k = k} {df = df} {wd = wd} {offset = offset} {rs = rs} q) =
    let sized = accepted p e m ok in
    let a : ℕ = address df offset (general_at m.gen rs) in
    let o : Memory = memory_at k.0 in
    let known : f o a = accessing e m sized k df wd offset rs f (at {wd = wd} q) in
    let says : Carrying e m a (step_of p e m).outcome =
    rw (step-plans p e m here)
    (switched-carrying e m m.ctl.on a (accessed o df e.board e.table m.vec m.work wd a)
    (accessed-carrying e m o df wd a))
    in
    accesses e m sized k df wd offset rs (λ o a. f o a × (a < 2 ^ 64) × Carrying e m a (step_of p e m).outcome)
    (known, below e m sized k df wd offset rs, says)

-- ---- a CTCMSA of x

abbrev pub Armed : ℕ → Result ⊤ Stop → Type 0
Armed x o = outcome_number o ≡ 19 → outcome_carried o ≡ arming (masked x)

control-armed : (x : ℕ) (one? trap? : Bool)
    → Armed x
    (outcome_of (cond one? (cond trap? (plan.Stop (Trap (arming (masked x)))) (plan.Csr (masked x))) plan.Nothing))
control-armed x =
    control-cases (λ q. Armed x (outcome_of q)) (arming (masked x)) (masked x) (λ h. refl) (λ h. absurd (omega arith))
    (λ h. absurd (omega arith))

switched-armed : (x : ℕ) (on : Bool) (q : Plan) → Armed x (outcome_of q)
    → Armed x (outcome_of (unless (switched_early on) q))
switched-armed x true q a = a
switched-armed x false q a = λ h. absurd (omega arith)

pub set-map : {m : Machine} {i : Instr} {f g : ℕ → Type 0} → ((x : ℕ) → f x → g x) → SetsCsr m f i → SetsCsr m g i
set-map h (to one q) = to one (h _ q)

pub set-carries : (p : List ℕ) (e : Env) (m : Machine) {i : Instr} {f : ℕ → Type 0} → ReadsAs p e m (Ok i)
    → SetsCsr m f i → SetsCsr m (λ x. f x × Armed x (step_of p e m).outcome) i
unfolding plan_of
set-carries p e m here (to {cd = cd} {rs = rs} one q) =
    let x : ℕ = general_at m.gen rs in
    let says : Armed (general m rs) (step_of p e m).outcome =
    rw (step-plans p e m here, general-at m rs)
    (switched-armed x m.ctl.on (to_control cd.0 x) (control-armed x (eqb cd.0 1) (arms (masked x))))
    in
    to one (q, says)
