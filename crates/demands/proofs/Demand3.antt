-- Demand 3, by induction on the first run's budget: a step with the wider window has the same plan, or the first stops
-- with 17.
-- Assumes nothing.
use mathlib.Core.Path.{◌≡◌, refl, sym, ap, ◌∙◌, subst}
use mathlib.Core.List.{List}
use Prim.Native.Nat.{ℕ, zero, suc, ◌+◌, ◌-◌, ◌≤◌, ◌<◌}
use native.Mathlib.Decide.{dec_le}
use native.Mathlib.Omega.{arith}
use lib.Dec.{eqb}
use lib.ListN.{length, get_or}
use Rattle.isa.specs.declared.Instr.{Instr}
use Rattle.isa.specs.declared.Instr.TheVariants as instr
use Rattle.isa.specs.declared.Memory.{Memory}
use Rattle.isa.specs.declared.Memory.TheVariants.{Ld, St}
use Rattle.std.specs.Prelude.{Ok, Err, Some, None, Result, Option, ⊤}
use Rattle.state.specs.declared.stops.Stop.{Stop}
use Rattle.isa.specs.declared.Vreg.{Vreg}
use Rattle.isa.specs.declared.Width.{Width}
use Rattle.isa.specs.Widths.{bytes}
use Rattle.memory.specs.Bytes.{replaced, part, bytes_of}
use Rattle.memory.specs.File.{register_at}
use Rattle.memory.specs.Value.{value}
use Rattle.memory.proofs.Numbers.{length-bytes_of}
use Rattle.memory.proofs.Parts.{same-part, length-replaced, replaced-before, replaced-inside, replaced-after}
use Rattle.ops.specs.Meaning.{memory_at}
use Rattle.order.specs.declared.Order.{Order}
use Rattle.order.specs.Order.{register_in}
use Rattle.plan.specs.declared.Plan.{Plan}
use Rattle.plan.specs.declared.Plan.TheVariants as plan
use Rattle.plan.specs.Numbers.{address}
use Rattle.plan.specs.Plan.{plan_of, executed, early, unless, kind_of, accessed, loaded, stored, writes, general_at}
use Rattle.plan.proofs.PlanLaws.{control-cases}
use Rattle.reading.specs.Reading.{read_of}
use Rattle.state.specs.declared.control.Control.{Control}
use Rattle.isa.specs.declared.Unread as unread
use Rattle.state.specs.declared.stops.Stop.TheVariants.{NoWord, Unread, NoWindow}
use Rattle.state.specs.Csr.{masked, arms, arming}
use Rattle.state.specs.Fetch.{fetched}
use Rattle.state.specs.Machine.{Env, Machine, machine}
use Rattle.state.specs.Windows.{placed, or_else}
use Rattle.state.proofs.WindowLaws.{placed_at, placed-fits}
use Rattle.machine.specs.Effect.{work_after}
use Rattle.machine.specs.Numbers.{reason_number}
use Rattle.machine.specs.Run.{Run, runs, onward}
use Rattle.machine.specs.Step.{Ending, result, concluded, decided, attempted, step_of}
use Rattle.demands.specs.Demand3.{Holds, Untouched, EndsAlike, placed_env, Wider}

-- windows

module _ (b₁ : ℕ) (w₁ : List ℕ) (b₂ : ℕ) (w₂ : List ℕ) (holds : Holds b₁ w₁ b₂ w₂)
    (a : ℕ) (from : b₁ ≤ a) (to : a + 16 ≤ b₁ + length w₁) where
  -- sixteen bytes of the first window are in the second
  wider-from : b₂ ≤ a
  wider-from = let h = holds (a - b₁) (omega arith) in omega arith

  wider-to : a + 16 ≤ b₂ + length w₂
  wider-to = let h = holds (a - b₁ + 15) (omega arith) in omega arith

  -- and they are the same
  wider-part : part w₂ (a - b₂) 16 ≡ part w₁ (a - b₁) 16
  wider-part =
      let f : b₂ ≤ a = wider-from in
      let t : a + 16 ≤ b₂ + length w₂ = wider-to in
      same-part w₂ w₁ (a - b₂) (a - b₁) 16 (omega arith) (omega arith)
      (λ k h.
      let e : a - b₂ + k ≡ b₁ + (a - b₁ + k) - b₂ = omega arith in
      ap (λ n. get_or w₂ n 0) e ∙ (holds (a - b₁ + k) (omega arith)).2)

  -- a store of at most sixteen bytes keeps the first window held, and touches no other byte
  module _ (s : List ℕ) (short : length s ≤ 16) where
    fits₁ : a - b₁ + length s ≤ length w₁
    fits₁ = omega arith

    fits₂ : a - b₂ + length s ≤ length w₂
    fits₂ = omega (arith, wider-from, wider-to)

    stored-byte : (k : ℕ) → k < length w₁
        → get_or (replaced w₂ (a - b₂) s) (b₁ + k - b₂) 0 ≡ get_or (replaced w₁ (a - b₁) s) k 0
    stored-byte k h = go (dec_le (a - b₁) k) (dec_le (a - b₁ + length s) k)
      where
        f : b₂ ≤ a
        f = wider-from

        o : (b₂ ≤ b₁ + k) × (b₁ + k < b₂ + length w₂) × (get_or w₂ (b₁ + k - b₂) 0 ≡ get_or w₁ k 0)
        o = holds k h

        go : Dec (a - b₁ ≤ k) → Dec (a - b₁ + length s ≤ k)
            → get_or (replaced w₂ (a - b₂) s) (b₁ + k - b₂) 0 ≡ get_or (replaced w₁ (a - b₁) s) k 0
        go (no l) d =
            replaced-before w₂ (a - b₂) s fits₂ (b₁ + k - b₂) (omega (arith, f, o.0)) ∙ o.2
            ∙ sym (replaced-before w₁ (a - b₁) s fits₁ k (omega arith))
        go (yes l) (no u) =
            let e : b₁ + k - b₂ - (a - b₂) ≡ k - (a - b₁) = omega (arith, f, o.0) in
            replaced-inside w₂ (a - b₂) s fits₂ (b₁ + k - b₂) (omega (arith, f, o.0)) (omega (arith, f, o.0))
            ∙ ap (λ n. get_or s n 0) e
            ∙ sym (replaced-inside w₁ (a - b₁) s fits₁ k l (omega arith))
        go (yes l) (yes u) =
            replaced-after w₂ (a - b₂) s fits₂ (b₁ + k - b₂) (omega (arith, f, o.0)) ∙ o.2
            ∙ sym (replaced-after w₁ (a - b₁) s fits₁ k u)

    stored-holds : Holds b₁ (replaced w₁ (a - b₁) s) b₂ (replaced w₂ (a - b₂) s)
    stored-holds k h =
        let n₁ : length (replaced w₁ (a - b₁) s) ≡ length w₁ = length-replaced w₁ (a - b₁) s fits₁ in
        let n₂ : length (replaced w₂ (a - b₂) s) ≡ length w₂ = length-replaced w₂ (a - b₂) s fits₂ in
        let l : k < length w₁ = omega arith in
        let o = holds k l in
        (o.0, omega arith, stored-byte k l)

    stored-untouched : Untouched b₁ (length w₁) b₂ w₂ (replaced w₂ (a - b₂) s)
    stored-untouched j h out = go (dec_le (a - b₂) j) (dec_le (a - b₂ + length s) j)
      where
        f : b₂ ≤ a
        f = wider-from

        go : Dec (a - b₂ ≤ j) → Dec (a - b₂ + length s ≤ j) → get_or (replaced w₂ (a - b₂) s) j 0 ≡ get_or w₂ j 0
        go (no l) d = replaced-before w₂ (a - b₂) s fits₂ j (omega arith)
        go (yes l) (yes u) = replaced-after w₂ (a - b₂) s fits₂ j u
        go (yes l) (no u) = absurd (out (omega (arith, f), omega (arith, f)))

-- plans

-- a store that a plan names lies in a window of n bytes from b
abbrev InWindow : ℕ → ℕ → Plan → Type 0
InWindow b n (plan.Stop r) = Unit {0}
InWindow b n plan.Nothing = Unit {0}
InWindow b n (plan.Vector r v) = Unit {0}
InWindow b n (plan.General r x) = Unit {0}
InWindow b n (plan.Store a v) = (b ≤ a) × (a + 16 ≤ b + n)
InWindow b n (plan.Csr x) = Unit {0}
InWindow b n (plan.Branch k) = Unit {0}

-- the first plan stops with 17, or the second is the same
data Alike (b n : ℕ) (q₁ q₂ : Plan) : Type 0 where
  outside : (x : ℕ) → q₁ ≡ plan.Stop (NoWindow x) → Alike b n q₁ q₂
  same : q₂ ≡ q₁ → InWindow b n q₁ → Alike b n q₁ q₂

module _ (order : Order) (table : List ℕ) (pb tb b₁ b₂ : ℕ) (v g : List ℕ) (c : Control)
    (w₁ w₂ : List ℕ) (holds : Holds b₁ w₁ b₂ w₂) where
  abbrev e₁ : Env
  e₁ = placed_env order pb tb b₁ table

  abbrev e₂ : Env
  e₂ = placed_env order pb tb b₂ table

  abbrev m₁ : Machine
  m₁ = machine v g w₁ c

  abbrev m₂ : Machine
  m₂ = machine v g w₂ c

  abbrev Plans : Plan → Plan → Type 0
  Plans = Alike b₁ (length w₁)

  -- work windows w₁' and w₂' in the places of w₁ and w₂
  record Beside (w₁' w₂' : List ℕ) : Type 0 where
    held : Holds b₁ w₁' b₂ w₂'
    first : length w₁' ≡ length w₁
    second : length w₂' ≡ length w₂
    rest : Untouched b₁ (length w₁) b₂ w₂ w₂'

  idle : Beside w₁ w₂
  idle = record { held = holds; first = refl; second = refl; rest = λ j h o. refl }

  after : (q : Plan) → InWindow b₁ (length w₁) q → Beside (work_after q b₁ w₁) (work_after q b₂ w₂)
  after (plan.Stop r) i = idle
  after plan.Nothing i = idle
  after (plan.Vector r x) i = idle
  after (plan.General r x) i = idle
  after (plan.Store a x) i =
      let s = bytes_of 16 (value x) in
      let short : length s ≤ 16 = omega (arith, length-bytes_of 16 (value x)) in
      record {
        held = stored-holds b₁ w₁ b₂ w₂ holds a i.0 i.1 s short;
        first = length-replaced w₁ (a - b₁) s (fits₁ b₁ w₁ b₂ w₂ holds a i.0 i.1 s short);
        second = length-replaced w₂ (a - b₂) s (fits₂ b₁ w₁ b₂ w₂ holds a i.0 i.1 s short);
        rest = stored-untouched b₁ w₁ b₂ w₂ holds a i.0 i.1 s short;
      }
  after (plan.Csr x) i = idle
  after (plan.Branch k) i = idle

  -- an access that the first window holds is placed in the second
  at-wider : (a : ℕ) → b₁ ≤ a → a + 16 ≤ b₁ + length w₁ → placed b₂ (length w₂) a ≡ Some (a - b₂)
  at-wider a from to =
      placed_at b₂ (length w₂) a (wider-from b₁ w₁ b₂ w₂ holds a from to) (wider-to b₁ w₁ b₂ w₂ holds a from to)

  -- the address a, with what the table and the first work window say of it; y is missing from the first machine where
  -- they say nothing, z from the second
  load-alike : (df : Width) (a : ℕ) (wd : Vreg) (y z : ℕ) (t f : Option ℕ) → placed b₁ (length w₁) a ≡ f
      → Plans (loaded (or_else y t f) order df wd table w₁)
      (loaded (or_else z t (placed b₂ (length w₂) a)) order df wd table w₂)
  load-alike df a wd y z (Some i) f p = same refl tt
  load-alike df a wd y z None None p = outside y refl
  load-alike df a wd y z None (Some j) p =
      let h = placed-fits b₁ (length w₁) a j p in
      rw (at-wider a h.0 h.1, h.2)
      (same (ap (λ s. writes wd (register_in order (bytes df) s)) (wider-part b₁ w₁ b₂ w₂ holds a h.0 h.1)) tt)

  store-alike : (df : Width) (a x y z : ℕ) (t f : Option ℕ) → placed b₁ (length w₁) a ≡ f
      → Plans (stored (or_else y t f) order df a x) (stored (or_else z t (placed b₂ (length w₂) a)) order df a x)
  store-alike df a x y z (Some i) f p = same refl tt
  store-alike df a x y z None None p = outside y refl
  store-alike df a x y z None (Some j) p =
      let h = placed-fits b₁ (length w₁) a j p in
      rw (at-wider a h.0 h.1)
      (same refl (h.0, h.1))

  accessed-alike : (o : Memory) (df : Width) (wd : Vreg) (a : ℕ)
      → Plans (accessed o df e₁.board table v w₁ wd a) (accessed o df e₂.board table v w₂ wd a)
  accessed-alike Ld df wd a = load-alike df a wd _ _ (placed tb (length table) a) (placed b₁ (length w₁) a) refl
  accessed-alike St df wd a =
      store-alike df a (register_at v wd) _ _ (placed tb (length table) a) (placed b₁ (length w₁) a) refl

  executed-alike : (i : Instr) → Plans (executed e₁ m₁ i) (executed e₂ m₂ i)
  executed-alike (instr.Three o df wd ws wt) = same refl tt
  executed-alike (instr.Indexed o df wd ws rt) = same refl tt
  executed-alike (instr.Imm5U o df wd ws imm) = same refl tt
  executed-alike (instr.Imm5S o df wd ws imm) = same refl tt
  executed-alike (instr.Ldi df wd imm) = same refl tt
  executed-alike (instr.Bit o df wd ws k) = same refl tt
  executed-alike (instr.Imm8 o wd ws imm) = same refl tt
  executed-alike (instr.Shf df wd ws imm) = same refl tt
  executed-alike (instr.Element o df wd ws n) = same refl tt
  executed-alike (instr.Insve df wd n ws) = same refl tt
  executed-alike (instr.Copy o df rd ws n) = same refl tt
  executed-alike (instr.Insert df wd n rs) = same refl tt
  executed-alike (instr.Move wd ws) = same refl tt
  executed-alike (instr.Cfcmsa rd cs) = same refl tt
  executed-alike (instr.Ctcmsa cd rs) =
      let x = masked (general_at g rs) in
      same refl (control-cases (InWindow b₁ (length w₁)) (arming x) x tt tt tt (eqb cd.0 1) (arms x))
  executed-alike (instr.Vec o wd ws wt) = same refl tt
  executed-alike (instr.Fill df wd rs) = same refl tt
  executed-alike (instr.Count o df wd ws) = same refl tt
  executed-alike (instr.Memory o df wd offset rs) =
      accessed-alike (memory_at o.0) df wd (address df offset (general_at g rs))
  executed-alike (instr.Branch o df wt offset) = same refl tt
  executed-alike (instr.BranchV o wt offset) = same refl tt
  executed-alike (instr.Scaled o rd rs rt sa) = same refl tt
  executed-alike (instr.Fixed o df wd ws wt) = same refl tt

  unless-alike : (s : Result ⊤ Stop) (q₁ q₂ : Plan) → Plans q₁ q₂ → Plans (unless s q₁) (unless s q₂)
  unless-alike (Ok tt) q₁ q₂ h = h
  unless-alike (Err s) q₁ q₂ h = same refl tt

  planned-alike : (i : Instr) → Plans (plan_of e₁ m₁ i) (plan_of e₂ m₂ i)
  unfolding plan_of
  planned-alike i =
      unless-alike (early (kind_of i) c.mark c.on) (executed e₁ m₁ i) (executed e₂ m₂ i) (executed-alike i)

  -- one step

  -- the first stops with 17, or both have the same outcome, registers and controls, the shared bytes stay shared, and
  -- no other byte changes
  data Together (s₁ s₂ : Ending) : Type 0 where
    apart : (x : ℕ) → s₁.outcome ≡ Err (NoWindow x) → Together s₁ s₂
    along : (o : Result ⊤ Stop) (v' g' : List ℕ) (c' : Control) (w₁' w₂' : List ℕ)
        → s₁ ≡ result o (machine v' g' w₁' c') → s₂ ≡ result o (machine v' g' w₂' c')
        → Beside w₁' w₂' → Together s₁ s₂

  concluded-together : (q₁ q₂ : Plan) → Plans q₁ q₂ → Together (concluded b₁ q₁ m₁) (concluded b₂ q₂ m₂)
  concluded-together q₁ q₂ (outside x h) = apart x (rw h)
  concluded-together q₁ q₂ (same h i) =
      subst (λ q. Together (concluded b₁ q₁ m₁) (concluded b₂ q m₂)) (sym h) (along _ _ _ _ _ _ refl refl (after q₁ i))

  decided-together : (r : Result Instr unread.Unread) → Together (decided r e₁ m₁) (decided r e₂ m₂)
  decided-together (Err u) = along (Err (Unread u)) v g c w₁ w₂ refl refl idle
  decided-together (Ok i) = concluded-together (plan_of e₁ m₁ i) (plan_of e₂ m₂ i) (planned-alike i)

  attempted-together : (f : Option ℕ) → Together (attempted f e₁ m₁) (attempted f e₂ m₂)
  attempted-together (Some w) = decided-together (read_of w)
  attempted-together None = along (Err NoWord) v g c w₁ w₂ refl refl idle

  step-together : (p : List ℕ) → Together (step_of p e₁ m₁) (step_of p e₂ m₂)
  unfolding step_of
  step-together p = attempted-together (fetched p pb c.pc)

-- a run

module _ (order : Order) (p table : List ℕ) (pb tb b₁ b₂ : ℕ) where
  abbrev run₁ : ℕ → List ℕ → List ℕ → List ℕ → Control → Run
  run₁ n v g w c = runs p (placed_env order pb tb b₁ table) n (machine v g w c)

  abbrev run₂ : ℕ → List ℕ → List ℕ → List ℕ → Control → Run
  run₂ n v g w c = runs p (placed_env order pb tb b₂ table) n (machine v g w c)

  -- what the induction gives for budgets k₁ and k₂
  abbrev RunsAlike : ℕ → ℕ → Type 0
  RunsAlike k₁ k₂ =
      (v g : List ℕ) (c : Control) (w₁ w₂ : List ℕ) → Holds b₁ w₁ b₂ w₂
      → (reason_number (run₁ k₁ v g w₁ c).reason ≡ 17 → ⊥)
      → (reason_number (run₁ k₁ v g w₁ c).reason ≡ 20 → ⊥)
      → EndsAlike b₁ (length w₁) b₂ w₂ (run₁ k₁ v g w₁ c) (run₂ k₂ v g w₂ c)

  module _ (k₁ k₂ : ℕ) (rest : RunsAlike k₁ k₂) (v g : List ℕ) (c : Control)
      (w₁ w₂ : List ℕ) (holds : Holds b₁ w₁ b₂ w₂) where
    abbrev go_on : Ending → ℕ → Env → Run
    go_on s k e = onward s.outcome s.after (runs p e k s.after)

    abbrev first : Result ⊤ Stop → List ℕ → List ℕ → List ℕ → Control → Run
    first o v' g' w₁' c' = onward o (machine v' g' w₁' c') (run₁ k₁ v' g' w₁' c')

    abbrev second : Result ⊤ Stop → List ℕ → List ℕ → List ℕ → Control → Run
    second o v' g' w₂' c' = onward o (machine v' g' w₂' c') (run₂ k₂ v' g' w₂' c')

    along-alike : (o : Result ⊤ Stop) (v' g' : List ℕ) (c' : Control) (w₁' w₂' : List ℕ)
        → Beside order table pb tb b₁ b₂ v g c w₁ w₂ holds w₁' w₂'
        → (reason_number (first o v' g' w₁' c').reason ≡ 17 → ⊥)
        → (reason_number (first o v' g' w₁' c').reason ≡ 20 → ⊥)
        → EndsAlike b₁ (length w₁) b₂ w₂ (first o v' g' w₁' c') (second o v' g' w₂' c')
    along-alike (Ok tt) v' g' c' w₁' w₂' beside f17 f20 =
        let i = rest v' g' c' w₁' w₂' beside.held f17 f20 in
        let l₁ = beside.first in
        let l₂ = beside.second in
        record {
          reason = i.reason;
          count = ap (λ x. 1 + x) i.count;
          vec = i.vec;
          gen = i.gen;
          ctl = i.ctl;
          first-length = i.first-length ∙ l₁;
          second-length = i.second-length ∙ l₂;
          shared = i.shared;
          added = λ j h out. i.added j (omega arith) (λ x. out (x.0, omega arith)) ∙ beside.rest j h out;
        }
    along-alike (Err s) v' g' c' w₁' w₂' beside f17 f20 =
        record {
          reason = refl;
          count = refl;
          vec = refl;
          gen = refl;
          ctl = refl;
          first-length = beside.first;
          second-length = beside.second;
          shared = beside.held;
          added = beside.rest;
        }

    onward-alike : (s₁ s₂ : Ending) → Together order table pb tb b₁ b₂ v g c w₁ w₂ holds s₁ s₂
        → (reason_number (go_on s₁ k₁ (placed_env order pb tb b₁ table)).reason ≡ 17 → ⊥)
        → (reason_number (go_on s₁ k₁ (placed_env order pb tb b₁ table)).reason ≡ 20 → ⊥)
        → EndsAlike b₁ (length w₁) b₂ w₂ (go_on s₁ k₁ (placed_env order pb tb b₁ table))
        (go_on s₂ k₂ (placed_env order pb tb b₂ table))
    onward-alike s₁ s₂ (apart x h) no17 no20 = absurd (no17 (rw h))
    onward-alike s₁ s₂ (along o v' g' c' w₁' w₂' q₁ q₂ beside) no17 no20 =
        rw (q₁, q₂) (along-alike o v' g' c' w₁' w₂' beside (rw q₁ at no17) (rw q₁ at no20))

  runs-alike : (n₁ n₂ : ℕ) → n₁ ≤ n₂ → RunsAlike n₁ n₂
  unfolding runs
  runs-alike zero n₂ h v g c w₁ w₂ holds no17 no20 = absurd (no20 refl)
  runs-alike (suc k₁) zero h v g c w₁ w₂ holds no17 no20 = absurd (omega arith)
  runs-alike (suc k₁) (suc k₂) h v g c w₁ w₂ holds no17 no20 =
      onward-alike k₁ k₂ (runs-alike k₁ k₂ (omega arith)) v g c w₁ w₂ holds
      (step_of p (placed_env order pb tb b₁ table) (machine v g w₁ c))
      (step_of p (placed_env order pb tb b₂ table) (machine v g w₂ c))
      (step-together order table pb tb b₁ b₂ v g c w₁ w₂ holds p) no17 no20

pub wider : Wider
unfolding Wider
wider order p table pb tb b₁ b₂ v g c w₁ w₂ n₁ n₂ holds h a₁ a₂ no17 no20 =
    rw (a₁, a₂)
    (runs-alike order p table pb tb b₁ b₂ n₁ n₂ h v g c w₁ w₂ holds (rw a₁ at no17) (rw a₁ at no20))
