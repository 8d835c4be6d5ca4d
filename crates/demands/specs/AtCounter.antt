-- The words in which the rows of the stops are put: what stands at the program counter, what it reads as, which address
-- a load or store asks for and whether a window holds it, which value a CTCMSA has and which of its bits arm a trap.
-- Nothing here is the machine's own (`Tables`).
use Rattle.std.specs.Prelude.{◌≡◌, cond, ◌⊎◌, List, ℕ, ◌+◌, ◌-◌, ◌*◌, ◌/◌, ◌%◌, ◌^◌, ◌≤◌, ◌<◌, ltb, length, Ok, Result}
use Rattle.isa.specs.declared.Creg.{Creg}
use Rattle.isa.specs.declared.Greg.{Greg}
use Rattle.isa.specs.declared.Instr.{Instr}
use Rattle.isa.specs.declared.Instr.TheVariants as instr
use Rattle.isa.specs.declared.Memory.{Memory}
use Rattle.isa.specs.declared.Op.{Op}
use Rattle.isa.specs.declared.Unread.{Unread}
use Rattle.isa.specs.declared.Vreg.{Vreg}
use Rattle.isa.specs.declared.Width.{Width}
use Rattle.isa.specs.declared.Width.TheVariants.{B, H, W, D}
use Rattle.ops.specs.Meaning.{memory_at}
use Rattle.reading.specs.Reading.{read_of}
use Rattle.state.specs.Machine.{Env, Machine}
use Rattle.demands.specs.Tables.{Not, Some, little, Bit, csr_bits, Inside}

-- ---- instructions

-- a branch: BZ and BNZ with a format, BZ.V and BNZ.V
pub data IsBranch : Instr → Type 0 where
  format : {k : Op} {df : Width} {wt : Vreg} {offset : ℕ} → IsBranch (instr.Branch k df wt offset)
  whole : {k : Op} {wt : Vreg} {offset : ℕ} → IsBranch (instr.BranchV k wt offset)

-- its offset: a field of sixteen bits
abbrev pub offset_of : {i : Instr} → IsBranch i → ℕ
offset_of (format {offset = offset}) = offset
offset_of (whole {offset = offset}) = offset

-- LSA and DLSA ignore the switch, so all others do not
pub data IgnoresSwitch : Instr → Type 0 where
  scaled : {k : Op} {rd rs rt : Greg} {sa : ℕ} → IgnoresSwitch (instr.Scaled k rd rs rt sa)

-- general register r: eight bytes
abbrev pub general : Machine → Greg → ℕ
general m r = little m.gen (8 * r.0) 8

abbrev pub element_bytes : Width → ℕ
element_bytes B = 1
element_bytes H = 2
element_bytes W = 4
element_bytes D = 8

-- x plus a ten-bit field times n, modulo 2^64; the field is signed: from 512 on it stands for 1,024 less
abbrev pub address_from : ℕ → ℕ → ℕ → ℕ
address_from x field n = cond (ltb field 512) (x + field * n) (x + field * n + 2 ^ 64 - 1024 * n) % 2 ^ 64

-- the address of the first byte of a load or a store
abbrev pub first_address : Machine → Width → ℕ → Greg → ℕ
first_address m df field rs = address_from (general m rs) field (element_bytes df)

-- a load or a store of which f holds, with that address
pub data Accesses (m : Machine) (f : Memory → ℕ → Type 0) : Instr → Type 0 where
  at : {k : Op} {df : Width} {wd : Vreg} {offset : ℕ} {rs : Greg}
      → f (memory_at k.0) (first_address m df offset rs)
      → Accesses m f (instr.Memory k df wd offset rs)

-- a CTCMSA to MSACSR, control register 1, of a value of which f holds
pub data SetsCsr (m : Machine) (f : ℕ → Type 0) : Instr → Type 0 where
  to : {cd : Creg} {rs : Greg} → cd.0 ≡ 1 → f (general m rs) → SetsCsr m f (instr.Ctcmsa cd rs)

-- ---- what they ask for

-- all sixteen addresses of an access, modulo 2^64, lie in a window
abbrev pub AllInside : ℕ → ℕ → ℕ → Type 0
AllInside base len a = (k : ℕ) → k < 16 → Inside base len ((a + k) % 2 ^ 64)

abbrev pub InTable : Env → ℕ → Type 0
InTable e a = AllInside e.board.table (length e.table) a

abbrev pub InWork : Env → Machine → ℕ → Type 0
InWork e m a = AllInside e.board.work (length m.work) a

-- bit k of x where the bits outside 0107FFFF are cleared
abbrev pub Left : ℕ → ℕ → Type 0
Left x k = Bit k x × Bit k csr_bits

-- bit k is one of 16..12 that 11..7 share
abbrev pub SharedBit : ℕ → ℕ → Type 0
SharedBit v k = (12 ≤ k) × (k < 17) × Left v k × Left v (k - 5)

-- the value x arms a float trap: bit 17, or a position that bits 16..12 and 11..7 share
abbrev pub Arms : ℕ → Type 0
Arms x = Left x 17 ⊎ Some (SharedBit x)

-- the bits x of the value v that arm a trap: bit 17 where it is set, else the shared bits of 16..12, at their places
pub data TrapBits (v x : ℕ) : Type 0 where
  bit17 : Left v 17 → x ≡ 0x20000 → TrapBits v x
  bits : Not (Left v 17) → x < 2 ^ 17 → ((k : ℕ) → k < 17 → Bit k x → SharedBit v k)
      → ((k : ℕ) → SharedBit v k → Bit k x)
      → TrapBits v x

-- ---- the word at the counter

-- word i of a program from base stands at the address x
abbrev pub AtWord : List ℕ → ℕ → ℕ → ℕ → Type 0
AtWord p base x i = (i < length p / 4) × (x ≡ base + 4 * i)

-- program word i stands at the counter
abbrev pub StandsAt : List ℕ → Env → Machine → ℕ → Type 0
StandsAt p e m i = AtWord p e.board.program m.ctl.pc i

-- the word at the counter reads as r
abbrev pub ReadsAs : List ℕ → Env → Machine → Result Instr Unread → Type 0
ReadsAs p e m r = Some (λ i. StandsAt p e m i × (read_of (little p (4 * i) 4) ≡ r))

-- the word at the counter is w
abbrev pub IsWord : List ℕ → Env → Machine → ℕ → Type 0
IsWord p e m w = Some (λ i. StandsAt p e m i × (w ≡ little p (4 * i) 4))

-- the word at the counter reads as an instruction of which f holds
pub record Does (p : List ℕ) (e : Env) (m : Machine) (f : Instr → Type 0) : Type 0 where
  pub instruction : Instr
  pub reads : ReadsAs p e m (Ok instruction)
  pub holds : f instruction
