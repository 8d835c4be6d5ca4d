-- What an instruction names: where its result goes, and the vector registers that it takes from. A line a class, by the
-- operands of the manual's pages; nothing here is the machine's own.
use Rattle.std.specs.Prelude.{◌≡◌, List, [], ◌∷◌, ◌++◌, ℕ, ◌+◌, ◌*◌, ◌≤◌, ◌<◌}
use Rattle.isa.specs.declared.Greg.{Greg}
use Rattle.isa.specs.declared.Instr.{Instr}
use Rattle.isa.specs.declared.Instr.TheVariants as instr
use Rattle.isa.specs.declared.Memory.{Memory}
use Rattle.isa.specs.declared.Memory.TheVariants.{Ld, St}
use Rattle.isa.specs.declared.Vreg.{Vreg}
use Rattle.isa.specs.declared.Width.{Width}
use Rattle.ops.specs.Meaning.{memory_at}
use Rattle.shown.specs.declared.Operand.{Operand}
use Rattle.shown.specs.declared.Operand.TheVariants as operand
use Rattle.shown.specs.declared.Operand.TheVariants.{Nothing, Vector, General, Control, Chosen, Offset}
use Rattle.shown.specs.declared.Shown.{Shown}
use Rattle.shown.specs.Shown.{shown_of}
use Rattle.state.specs.Machine.{Machine}
use Rattle.demands.specs.AtCounter.{first_address}

-- the operands of LD and ST
pub record Access : Type 0 where
  pub df : Width
  pub wd : Vreg
  pub s10 : ℕ
  pub rs : Greg

-- the address of its first byte
abbrev pub first_of : Access → Machine → ℕ
first_of x m = first_address m x.df x.s10 x.rs

-- a vector register, a general register, the sixteen bytes of a store, or the control block alone
pub data Destination : Type 0 where
  in_vector : Vreg → Destination
  in_general : Greg → Destination
  in_memory : Access → Destination
  in_control : Destination

-- byte b of the vector registers is one of register r
abbrev pub OfRegister : Vreg → ℕ → Type 0
OfRegister r b = (16 * r.0 ≤ b) × (b < 16 * r.0 + 16)

pub record Operands : Type 0 where
  pub destination : Destination
  pub sources : List Vreg

abbrev names : Destination → List Vreg → Operands
names d s = record { destination = d; sources = s }

abbrev pub accessing : Memory → Access → Operands
accessing Ld x = names (in_vector x.wd) []
accessing St x = names (in_memory x) (x.wd ∷ [])

abbrev pub operands_of : Instr → Operands
operands_of (instr.Three k df wd ws wt) = names (in_vector wd) (ws ∷ wt ∷ [])
operands_of (instr.Indexed k df wd ws rt) = names (in_vector wd) (ws ∷ [])
operands_of (instr.Imm5U k df wd ws imm) = names (in_vector wd) (ws ∷ [])
operands_of (instr.Imm5S k df wd ws imm) = names (in_vector wd) (ws ∷ [])
operands_of (instr.Ldi df wd imm) = names (in_vector wd) []
operands_of (instr.Bit k df wd ws n) = names (in_vector wd) (ws ∷ [])
operands_of (instr.Imm8 k wd ws imm) = names (in_vector wd) (ws ∷ [])
operands_of (instr.Shf df wd ws imm) = names (in_vector wd) (ws ∷ [])
operands_of (instr.Element k df wd ws n) = names (in_vector wd) (ws ∷ [])
operands_of (instr.Insve df wd n ws) = names (in_vector wd) (ws ∷ [])
operands_of (instr.Copy k df rd ws n) = names (in_general rd) (ws ∷ [])
operands_of (instr.Insert df wd n rs) = names (in_vector wd) []
operands_of (instr.Move wd ws) = names (in_vector wd) (ws ∷ [])
operands_of (instr.Cfcmsa rd cs) = names (in_general rd) []
operands_of (instr.Ctcmsa cd rs) = names in_control []
operands_of (instr.Vec k wd ws wt) = names (in_vector wd) (ws ∷ wt ∷ [])
operands_of (instr.Fill df wd rs) = names (in_vector wd) []
operands_of (instr.Count k df wd ws) = names (in_vector wd) (ws ∷ [])
operands_of (instr.Memory k df wd s10 rs) = accessing (memory_at k.0) (record { df = df; wd = wd; s10 = s10; rs = rs })
operands_of (instr.Branch k df wt offset) = names in_control (wt ∷ [])
operands_of (instr.BranchV k wt offset) = names in_control (wt ∷ [])
operands_of (instr.Scaled k rd rs rt sa) = names (in_general rd) []
operands_of (instr.Fixed k df wd ws wt) = names (in_vector wd) (ws ∷ wt ∷ [])

-- ---- beside the listing

-- the vector registers of an operand as it is shown, and of all four
abbrev pub shown_in : Operand → List Vreg
shown_in Nothing = []
shown_in (Vector r) = r ∷ []
shown_in (General r) = []
shown_in (Control r) = []
shown_in (operand.Number n) = []
shown_in (operand.Element r n) = r ∷ []
shown_in (Chosen r rt) = r ∷ []
shown_in (Offset n rs) = []

abbrev pub vectors_shown : Shown → List Vreg
vectors_shown s = shown_in s.a ++ shown_in s.b ++ shown_in s.c ++ shown_in s.d

abbrev pub result_in : Destination → List Vreg
result_in (in_vector r) = r ∷ []
result_in (in_general r) = []
result_in (in_memory x) = []
result_in in_control = []

abbrev pub vectors_named : Operands → List Vreg
vectors_named o = result_in o.destination ++ o.sources

-- an instruction names the vector registers that its line shows, the destination first
abbrev pub NamesShown : Type 0
NamesShown = (i : Instr) → vectors_named (operands_of i) ≡ vectors_shown (shown_of i)
