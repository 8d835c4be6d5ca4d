-- What a plan names is there, where the instruction is formed.
-- Assumes nothing.
use mathlib.Core.Path.{◌≡◌, refl}
use mathlib.Core.Bool.{Bool, true, false, cond}
use mathlib.Core.List.{List}
use Prim.Native.Nat.{ℕ}
use lib.Dec.{eqb}
use lib.ListN.{length}
use Rattle.isa.specs.declared.Instr.{Instr}
use Rattle.isa.specs.declared.Instr.TheVariants as instr
use Rattle.isa.specs.declared.Memory.{Memory}
use Rattle.isa.specs.declared.Memory.TheVariants.{Ld, St}
use Rattle.isa.specs.declared.Vreg.{Vreg}
use Rattle.isa.specs.declared.Width.{Width}
use Rattle.ops.specs.Meaning.{memory_at}
use Rattle.memory.specs.declared.Register.{Register}
use Rattle.memory.specs.File.{register_at}
use Rattle.state.specs.declared.board.Board.{Board}
use Rattle.state.specs.declared.stops.Stop.TheVariants.{NoWindow, ReadOnly, Trap}
use Rattle.state.specs.declared.windows.Spot.{Spot}
use Rattle.state.specs.declared.windows.Spot.TheVariants.{Table, Work, Outside}
use Rattle.state.specs.Csr.{masked, arms, arming}
use Rattle.state.specs.Machine.{Env, Machine}
use Rattle.state.specs.Windows.{spot_of}
use Rattle.state.proofs.WindowLaws.{spot-work}
use Rattle.words.specs.Formed.{Formed}
use Rattle.plan.specs.declared.Plan.{Plan}
use Rattle.plan.specs.declared.Plan.TheVariants as plan
use Rattle.std.specs.Prelude.{Ok, Err, Result, ⊤}
use Rattle.state.specs.declared.stops.Stop.{Stop}
use Rattle.plan.specs.Numbers.{address}
use Rattle.plan.specs.Plan.{plan_of, executed, accessed, loaded, stored, writes, general_at, kind_of, early, unless}
use Rattle.plan.specs.There.{There}

-- what a CTCMSA may come to, and a fact of each
pub control-cases : (f : Plan → Type 0) (bits x : ℕ) → f (plan.Stop (Trap bits)) → f (plan.Csr x) → f plan.Nothing
    → (one? trap? : Bool) → f (cond one? (cond trap? (plan.Stop (Trap bits)) (plan.Csr x)) plan.Nothing)
control-cases f bits x s c n true true = s
control-cases f bits x s c n true false = c
control-cases f bits x s c n false trap? = n

-- what a load or a store may come to, and a fact of each
module _ (f : Plan → Type 0) (df : Width) (b : Board) (table vectors work : List ℕ) (wd : Vreg) (a : ℕ) where
  abbrev spot : Spot
  spot = spot_of b (length table) (length work) a

  pub access-cases : ((x : ℕ) → f (writes wd x))
      → ((i : ℕ) (v : Register) → spot ≡ Work i → f (plan.Store a v))
      → f (plan.Stop (ReadOnly a))
      → ((x : ℕ) → spot ≡ Outside x → f (plan.Stop (NoWindow x)))
      → (o : Memory) → f (accessed o df b table vectors work wd a)
  access-cases l s r n Ld = go spot refl
    where
      go : (p : Spot) → spot ≡ p → f (loaded p b.order df wd table work)
      go (Table i) h = l _
      go (Work i) h = l _
      go (Outside x) h = n x h
  access-cases l s r n St = go spot refl
    where
      go : (p : Spot) → spot ≡ p → f (stored p b.order df a (register_at vectors wd))
      go (Table i) h = r
      go (Work i) h = s i _ h
      go (Outside x) h = n x h

module _ (e : Env) (m : Machine) where
  abbrev Names : Plan → Type 0
  Names = There e.board.work (length m.work)

  executed-there : (i : Instr) → Formed i → Names (executed e m i)
  executed-there (instr.Three o df wd ws wt) f = f.0
  executed-there (instr.Indexed o df wd ws rt) f = f.0
  executed-there (instr.Imm5U o df wd ws imm) f = f.0
  executed-there (instr.Imm5S o df wd ws imm) f = f.0
  executed-there (instr.Ldi df wd imm) f = f.0
  executed-there (instr.Bit o df wd ws k) f = f.0
  executed-there (instr.Imm8 o wd ws imm) f = f.0
  executed-there (instr.Shf df wd ws imm) f = f.0
  executed-there (instr.Element o df wd ws n) f = f.0
  executed-there (instr.Insve df wd n ws) f = f.0
  executed-there (instr.Copy o df rd ws n) f = f.0
  executed-there (instr.Insert df wd n rs) f = f.0
  executed-there (instr.Move wd ws) f = f.0
  executed-there (instr.Cfcmsa rd cs) f = f.0
  executed-there (instr.Ctcmsa cd rs) f =
      let x = masked (general_at m.gen rs) in
      control-cases Names (arming x) x tt tt tt (eqb cd.0 1) (arms x)
  executed-there (instr.Vec o wd ws wt) f = f.0
  executed-there (instr.Fill df wd rs) f = f.0
  executed-there (instr.Count o df wd ws) f = f.0
  executed-there (instr.Memory o df wd offset rs) f =
      let a : ℕ = address df offset (general_at m.gen rs) in
      access-cases Names df e.board e.table m.vec m.work wd a (λ x. f.0)
      (λ i v p. let h = spot-work e.board (length e.table) (length m.work) a i p in (h.0, h.1))
      tt (λ x p. tt) (memory_at o.0)
  executed-there (instr.Branch o df wt offset) f = tt
  executed-there (instr.BranchV o wt offset) f = tt
  executed-there (instr.Scaled o rd rs rt sa) f = f.0
  executed-there (instr.Fixed o df wd ws wt) f = f.0

  unless-there : (s : Result ⊤ Stop) (p : Plan) → Names p → Names (unless s p)
  unless-there (Ok tt) p h = h
  unless-there (Err s) p h = tt

  pub planned-there : (i : Instr) → Formed i → There e.board.work (length m.work) (plan_of e m i)
  unfolding plan_of
  planned-there i f =
      unless-there (early (kind_of i) m.ctl.mark m.ctl.on) (executed e m i) (executed-there i f)
