-- What a finished step leaves as it was (request 8/12): beyond the control block every byte, but for those of the one
-- register that the instruction names as destination, or for the sixteen of its store.
use Rattle.std.specs.Prelude.{◌≡◌, List, ℕ, ◌+◌, ◌*◌, ◌≤◌, ◌<◌, length, get_or, Ok}
use Rattle.isa.specs.declared.Greg.{Greg}
use Rattle.isa.specs.declared.Vreg.{Vreg}
use Rattle.state.specs.Machine.{Env, Machine}
use Rattle.machine.specs.Step.{whole_step}
use Rattle.demands.specs.AtCounter.{InWork, Does}
use Rattle.demands.specs.Destination.{Access, first_of, Destination, in_vector, in_general, in_memory, in_control}
use Rattle.demands.specs.Destination.{OfRegister, operands_of}
use Rattle.demands.specs.Tables.{Not}

-- a destination is there: one of 32 registers, or sixteen addresses that the work window holds
abbrev pub Exists : Env → Machine → Destination → Type 0
Exists e m (in_vector r) = r.0 < 32
Exists e m (in_general r) = r.0 < 32
Exists e m (in_memory x) = InWork e m (first_of x m)
Exists e m in_control = Unit {0}

-- its bytes: of the vector registers, of the general registers, and of the work window
pub data VectorByte : Destination → ℕ → Type 0 where
  of : {r : Vreg} {b : ℕ} → OfRegister r b → VectorByte (in_vector r) b

pub data GeneralByte : Destination → ℕ → Type 0 where
  of : {r : Greg} {b : ℕ} → 8 * r.0 ≤ b → b < 8 * r.0 + 8 → GeneralByte (in_general r) b

pub data WorkByte (e : Env) (m : Machine) : Destination → ℕ → Type 0 where
  of : {x : Access} {b : ℕ} → first_of x m ≤ e.board.work + b → e.board.work + b < first_of x m + 16
      → WorkByte e m (in_memory x) b

-- as many bytes, and the same ones but where f holds
pub record SameBut (f : ℕ → Type 0) (s s' : List ℕ) : Type 0 where
  pub long : length s' ≡ length s
  pub others : (b : ℕ) → Not (f b) → get_or s' b 0 ≡ get_or s b 0

pub record ChangesOnly (d : Destination) (e : Env) (m m' : Machine) : Type 0 where
  pub there : Exists e m d
  pub vectors : SameBut (VectorByte d) m.vec m'.vec
  pub generals : SameBut (GeneralByte d) m.gen m'.gen
  pub work : SameBut (WorkByte e m d) m.work m'.work

abbrev pub ChangesOne : Type 0
ChangesOne =
    (p : List ℕ) (e : Env) (m : Machine) → (whole_step p e m).answer ≡ Ok (Ok tt)
    → Does p e m (λ i. ChangesOnly (operands_of i).destination e m (whole_step p e m).after)
