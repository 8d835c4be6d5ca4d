-- What a finished step leaves as it was: the plan of an instruction goes to the destination that the instruction names,
-- and what is done of it changes those bytes alone. Assumes nothing.
use mathlib.Core.Path.{◌≡◌, refl, sym, ap, ◌∙◌}
use mathlib.Core.Bool.{Bool, true, false, cond}
use mathlib.Core.List.{List}
use Prim.Native.Nat.{ℕ, ◌+◌, ◌-◌, ◌*◌, ◌%◌, ◌^◌, ◌≤◌, ◌<◌}
use native.Mathlib.Nat.{mod-eq_of_lt}
use native.Mathlib.Omega.{arith}
use lib.Dec.{eqb}
use lib.ListN.{length}
use Rattle.isa.specs.declared.Greg.{Greg}
use Rattle.isa.specs.declared.Instr.{Instr}
use Rattle.isa.specs.declared.Instr.TheVariants as instr
use Rattle.isa.specs.declared.Memory.{Memory}
use Rattle.isa.specs.declared.Memory.TheVariants.{Ld, St}
use Rattle.isa.specs.declared.Vreg.{Vreg}
use Rattle.memory.specs.Bytes.{replaced, bytes_of}
use Rattle.memory.specs.File.{register_at, with_register}
use Rattle.memory.specs.Value.{value}
use Rattle.ops.specs.Meaning.{memory_at}
use Rattle.plan.specs.declared.Plan.{Plan}
use Rattle.plan.specs.declared.Plan.TheVariants as plan
use Rattle.std.specs.Prelude.{Ok, Err, Result, ⊤}
use Rattle.state.specs.declared.stops.Stop.{Stop}
use Rattle.plan.specs.Plan.{plan_of, executed, accessed, loaded, stored, general_at, kind_of, early, unless}
use Rattle.plan.specs.There.{There}
use Rattle.plan.proofs.PlanLaws.{control-cases}
use Rattle.reading.specs.Reading.{read_of}
use Rattle.state.specs.declared.windows.Spot.{Spot}
use Rattle.state.specs.declared.windows.Spot.TheVariants.{Table, Work, Outside}
use Rattle.state.specs.Csr.{masked, arms, arming}
use Rattle.state.specs.Machine.{Env, Machine}
use Rattle.state.proofs.SetupLaws.{Sized, accepted}
use Rattle.machine.specs.Effect.{applied, with_general}
use Rattle.machine.specs.Step.{outcome_of}
use Rattle.demands.specs.AtCounter.{InWork}
use Rattle.demands.specs.Changes.{VectorByte, GeneralByte, WorkByte, SameBut, ChangesOnly, ChangesOne}
use Rattle.demands.specs.Destination.{Access, first_of, Destination, in_vector, in_general, in_memory, in_control}
use Rattle.demands.specs.Destination.{accessing, operands_of}
use Rattle.demands.proofs.Demand2.{finished-step, meant-there, ends}
use Rattle.demands.proofs.Order.{start, spot}
use Rattle.demands.proofs.Reasons.{same_address, fetched-word}
use Rattle.demands.proofs.Written.{changed-length, changed-others}

-- ---- bytes

same-all : (f : ℕ → Type 0) (s : List ℕ) → SameBut f s s
same-all f s = record { long = refl; others = λ b n. refl }

-- n bytes that became others
same-but : (f : ℕ → Type 0) (d : List ℕ) (at n x : ℕ) → at + n ≤ length d
    → ((k : ℕ) → at ≤ k → k < at + n → f k) → SameBut f d (replaced d at (bytes_of n x))
same-but f d at n x fits is =
    record {
      long = changed-length d at n x fits;
      others = λ k out. changed-others d at n x fits k (λ h. out (is k h.0 h.1));
    }

-- ---- plans

-- a plan goes to a destination
abbrev GoesTo : Machine → Destination → Plan → Type 0
GoesTo m d (plan.Stop s) = Unit {0}
GoesTo m d plan.Nothing = d ≡ in_control
GoesTo m d (plan.Vector r v) = d ≡ in_vector r
GoesTo m d (plan.General r x) = d ≡ in_general r
GoesTo m d (plan.Store a v) = (x : Access) × (d ≡ in_memory x) × (first_of x m ≡ a)
GoesTo m d (plan.Csr x) = d ≡ in_control
GoesTo m d (plan.Branch k) = d ≡ in_control

module _ (e : Env) (m : Machine) (sized : Sized e m) where
  access-goes : (x : Access) (o : Memory)
      → GoesTo m (accessing o x).destination
      (accessed o x.df e.board e.table m.vec m.work x.wd (start x m))
  access-goes x Ld = go (spot x e m)
    where
      go : (s : Spot)
          → GoesTo m (in_vector x.wd) (loaded s e.board.order x.df x.wd e.table m.work)
      go (Table i) = refl
      go (Work i) = refl
      go (Outside y) = tt
  access-goes x St = go (spot x e m)
    where
      go : (s : Spot)
          → GoesTo m (in_memory x) (stored s e.board.order x.df (start x m) (register_at m.vec x.wd))
      go (Table i) = tt
      go (Work i) = (x, refl, same_address m x.df x.s10 x.rs)
      go (Outside y) = tt

  executed-goes : (i : Instr) → GoesTo m (operands_of i).destination (executed e m i)
  executed-goes (instr.Three o df wd ws wt) = refl
  executed-goes (instr.Indexed o df wd ws rt) = refl
  executed-goes (instr.Imm5U o df wd ws imm) = refl
  executed-goes (instr.Imm5S o df wd ws imm) = refl
  executed-goes (instr.Ldi df wd imm) = refl
  executed-goes (instr.Bit o df wd ws k) = refl
  executed-goes (instr.Imm8 o wd ws imm) = refl
  executed-goes (instr.Shf df wd ws imm) = refl
  executed-goes (instr.Element o df wd ws n) = refl
  executed-goes (instr.Insve df wd n ws) = refl
  executed-goes (instr.Copy o df rd ws n) = refl
  executed-goes (instr.Insert df wd n rs) = refl
  executed-goes (instr.Move wd ws) = refl
  executed-goes (instr.Cfcmsa rd cs) = refl
  executed-goes (instr.Ctcmsa cd rs) =
      let x = masked (general_at m.gen rs) in
      control-cases (GoesTo m in_control) (arming x) x tt refl refl (eqb cd.0 1) (arms x)
  executed-goes (instr.Vec o wd ws wt) = refl
  executed-goes (instr.Fill df wd rs) = refl
  executed-goes (instr.Count o df wd ws) = refl
  executed-goes (instr.Memory o df wd s10 rs) =
      access-goes (record { df = df; wd = wd; s10 = s10; rs = rs }) (memory_at o.0)
  executed-goes (instr.Branch o df wt offset) = refl
  executed-goes (instr.BranchV o wt offset) = refl
  executed-goes (instr.Scaled o rd rs rt sa) = refl
  executed-goes (instr.Fixed o df wd ws wt) = refl

  planned-goes : (i : Instr) → GoesTo m (operands_of i).destination (plan_of e m i)
  unfolding plan_of
  planned-goes i = go (early (kind_of i) m.ctl.mark m.ctl.on)
    where
      go : (s : Result ⊤ Stop) → GoesTo m (operands_of i).destination (unless s (executed e m i))
      go (Ok tt) = executed-goes i
      go (Err s) = tt

  -- ---- what is done of them

  abbrev base : ℕ
  base = e.board.work

  vector-only : (r : Vreg) (x : ℕ) → r.0 < 32
      → SameBut (VectorByte (in_vector r)) m.vec (with_register m.vec r x)
  unfolding with_register
  vector-only r x h =
      same-but (VectorByte (in_vector r)) m.vec (16 * r.0) 16 x (omega (arith, sized.vectors))
      (λ k a b. VectorByte.of (a, b))

  general-only : (r : Greg) (x : ℕ) → r.0 < 32
      → SameBut (GeneralByte (in_general r)) m.gen (with_general m.gen r x)
  unfolding with_general
  general-only r x h = go (eqb r.0 0)
    where
      go : (b : Bool)
          → SameBut (GeneralByte (in_general r)) m.gen (cond b m.gen (replaced m.gen (8 * r.0) (bytes_of 8 x)))
      go true = same-all _ m.gen
      go false =
          same-but (GeneralByte (in_general r)) m.gen (8 * r.0) 8 x (omega (arith, sized.generals))
          (λ k a b. GeneralByte.of a b)

  store-only : (x : Access) (a v : ℕ) → first_of x m ≡ a → base ≤ a → a + 16 ≤ base + length m.work
      → SameBut (WorkByte e m (in_memory x)) m.work (replaced m.work (a - base) (bytes_of 16 v))
  store-only x a v is from to =
      same-but (WorkByte e m (in_memory x)) m.work (a - base) 16 v (omega arith)
      (λ k l r. WorkByte.of (omega arith) (omega arith))

  store-there : (x : Access) (a : ℕ) → first_of x m ≡ a → base ≤ a → a + 16 ≤ base + length m.work
      → InWork e m (first_of x m)
  store-there x a is from to k h =
      let here : (first_of x m + k) % 2 ^ 64 ≡ a + k =
      ap (λ y. (y + k) % 2 ^ 64) is ∙ mod-eq_of_lt (omega (arith, sized.work)) in
      rw here (omega arith, omega arith)

  applied-only : (d : Destination) (q : Plan) → outcome_of q ≡ Ok tt → GoesTo m d q → There base (length m.work) q
      → ChangesOnly d e m (applied base q m)
  applied-only d (plan.Stop s) o g h = let z : ◌≡◌ {A = ℕ} 0 1 = cc in absurd (omega arith)
  applied-only d plan.Nothing o g h =
      rw g (record { there = tt; vectors = same-all _ _; generals = same-all _ _; work = same-all _ _ })
  applied-only d (plan.Vector r v) o g h =
      rw g (record { there = h; vectors = vector-only r (value v) h; generals = same-all _ _; work = same-all _ _ })
  applied-only d (plan.General r x) o g h =
      rw g (record { there = h; vectors = same-all _ _; generals = general-only r x h; work = same-all _ _ })
  applied-only d (plan.Store a v) o g h =
      rw g.1
      (record {
        there = store-there g.0 a g.2 h.0 h.1;
        vectors = same-all _ _;
        generals = same-all _ _;
        work = store-only g.0 a (value v) g.2 h.0 h.1;
      })
  applied-only d (plan.Csr x) o g h =
      rw g (record { there = tt; vectors = same-all _ _; generals = same-all _ _; work = same-all _ _ })
  applied-only d (plan.Branch k) o g h =
      rw g (record { there = tt; vectors = same-all _ _; generals = same-all _ _; work = same-all _ _ })

pub changes-one : ChangesOne
changes-one p e m f =
    let s = ends p e m f in
    let sized = accepted p e m s.ok in
    let d = finished-step p e m s.done in
    let i : Instr = d.instruction in
    let w = fetched-word p e m d.there in
    record {
      instruction = i;
      reads = record { number = w.number; holds = (w.holds.0, ap read_of (sym w.holds.1) ∙ d.reads) };
      holds =
          rw (s.after, d.after)
          (applied-only e m sized (operands_of i).destination (plan_of e m i) d.finishes (planned-goes e m sized i)
          (meant-there p e m d));
    }
