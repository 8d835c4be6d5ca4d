-- Request 7/12, the big-endian board: where each byte of a load and of a store stands. It is said from Table 3.1 of the
-- manual a second time, with nothing of the machine's own; and a store and then a load give the register back.
use Rattle.std.specs.Prelude.{◌≡◌, List, ◌⊎◌, ℕ, ◌+◌, ◌-◌, ◌*◌, ◌≤◌, ◌<◌, length, get_or, Ok}
use Rattle.isa.specs.declared.Instr.TheVariants as instr
use Rattle.isa.specs.declared.Memory.{Memory}
use Rattle.isa.specs.declared.Memory.TheVariants.{Ld, St}
use Rattle.isa.specs.declared.Op.{Op}
use Rattle.isa.specs.declared.Vreg.{Vreg}
use Rattle.memory.specs.Bytes.{AreBytes}
use Rattle.ops.specs.Meaning.{memory_at}
use Rattle.order.specs.declared.Order.{Order}
use Rattle.order.specs.declared.Order.TheVariants.{Little, Big}
use Rattle.state.specs.Machine.{Env, Machine}
use Rattle.state.specs.Setup.{refusal}
use Rattle.machine.specs.Step.{step_of}
use Rattle.demands.specs.AtCounter.{ReadsAs, element_bytes}
use Rattle.demands.specs.Destination.{Access, first_of, OfRegister}
use Rattle.demands.specs.Tables.{Not, Inside}

-- ---- bytes

-- Table 3.1, byte address offset: of byte j of element i, in elements of n bytes
abbrev pub offset : Order → ℕ → ℕ → ℕ → ℕ
offset Little n i j = n * i + j
offset Big n i j = n * i + (n - 1 - j)

-- a register has such a byte
abbrev pub IsByte : ℕ → ℕ → ℕ → Type 0
IsByte n i j = (n * i + j < 16) × (j < n)

-- and it is this one, of register r
abbrev pub byte_of : List ℕ → Vreg → ℕ → ℕ → ℕ → ℕ
byte_of file r n i j = get_or file (16 * r.0 + (n * i + j)) 0

-- the byte at address x of a window with bytes w from base is b
abbrev pub ByteAt : ℕ → List ℕ → ℕ → ℕ → Type 0
ByteAt base w x b = Inside base (length w) x × (get_or w (x - base) 0 ≡ b)

-- ---- loads and stores

-- a finished step of LD or ST
pub record Done (o : Memory) (x : Access) (p : List ℕ) (e : Env) (m : Machine) : Type 0 where
  pub op : Op
  pub is : memory_at op.0 ≡ o
  pub reads : ReadsAs p e m (Ok (instr.Memory op x.df x.wd x.s10 x.rs))
  pub finished : (step_of p e m).outcome ≡ Ok tt

-- the address of a byte of an element; no window passes 2^64, so none of a finished step does
abbrev pub address_of : Access → Env → Machine → ℕ → ℕ → ℕ
address_of x e m i j = first_of x m + offset e.board.order (element_bytes x.df) i j

-- LD from a window with bytes w from base: each byte of the register is the one at its address, and every byte of the
-- other registers is as it was
pub record Loaded (x : Access) (e : Env) (m m' : Machine) (base : ℕ) (w : List ℕ) : Type 0 where
  pub each : (i j : ℕ) → IsByte (element_bytes x.df) i j
      → ByteAt base w (address_of x e m i j) (byte_of m'.vec x.wd (element_bytes x.df) i j)
  pub others : (b : ℕ) → Not (OfRegister x.wd b) → get_or m'.vec b 0 ≡ get_or m.vec b 0

-- all sixteen from the table, or all from the work window
abbrev pub LoadsBytes : Type 0
LoadsBytes =
    (x : Access) (p : List ℕ) (e : Env) (m : Machine) → refusal p e m ≡ Ok tt → AreBytes e.table
    → AreBytes m.work → Done Ld x p e m
    → Loaded x e m (step_of p e m).after e.board.table e.table
    ⊎ Loaded x e m (step_of p e m).after e.board.work m.work

-- ST: each byte of the register stands at its address in the work window, and every other byte there is as it was
pub record Stored (x : Access) (e : Env) (m m' : Machine) : Type 0 where
  pub each : (i j : ℕ) → IsByte (element_bytes x.df) i j
      → ByteAt e.board.work m'.work (address_of x e m i j) (byte_of m.vec x.wd (element_bytes x.df) i j)
  pub others : (a b : ℕ) → Not ((first_of x m ≤ a) × (a < first_of x m + 16)) → ByteAt e.board.work m.work a b
      → ByteAt e.board.work m'.work a b

abbrev pub StoresBytes : Type 0
StoresBytes =
    (x : Access) (p : List ℕ) (e : Env) (m : Machine) → refusal p e m ≡ Ok tt → AreBytes m.vec
    → Done St x p e m → Stored x e m (step_of p e m).after

-- a store and then a load, in the same format and at the same address, give the register back, in either order
abbrev pub GivesBack : Type 0
GivesBack =
    (x y : Access) (p : List ℕ) (e : Env) (m : Machine) → refusal p e m ≡ Ok tt → AreBytes m.vec
    → Done St x p e m → Done Ld y p e (step_of p e m).after
    → x.df ≡ y.df → first_of x m ≡ first_of y (step_of p e m).after
    → (b : ℕ) → b < 16
    → get_or (step_of p e (step_of p e m).after).after.vec (16 * y.wd.0 + b) 0 ≡ get_or m.vec (16 * x.wd.0 + b) 0
