-- An instruction whose registers are below 32, whose immediates and index are within their fields, whose operation is
-- one of its class, and which has its format: what document 01's refusal 6 asks for.
use Rattle.std.specs.Prelude.{◌≡◌, true, ℕ, ◌<◌}
use Rattle.isa.specs.declared.Vreg.{Vreg}
use Rattle.isa.specs.declared.Greg.{Greg}
use Rattle.isa.specs.declared.Creg.{Creg}
use Rattle.isa.specs.declared.Op.{Op}
use Rattle.isa.specs.declared.Width.{Width}
use Rattle.isa.specs.declared.Instr.{Instr}
use Rattle.isa.specs.declared.Instr.TheVariants as instr
use Rattle.isa.specs.Widths.{bits, elements}
use Rattle.ops.specs.declared.Class.{Class}
use Rattle.ops.specs.declared.Class.TheVariants as class
use Rattle.ops.specs.Places as place
use Rattle.ops.specs.Table.{class_at, has_form}

abbrev pub vector : Vreg → Type 0
vector r = r.0 < 32

abbrev pub general : Greg → Type 0
general r = r.0 < 32

abbrev pub control : Creg → Type 0
control r = r.0 < 32

-- an operation of a class, and one that has a format
abbrev pub of : Class → Op → Type 0
of c k = class_at k.0 ≡ c

abbrev pub has : ℕ → Width → Type 0
has k df = has_form k df ≡ true

abbrev pub Formed : Instr → Type 0
Formed (instr.Three k df wd ws wt) = vector wd × vector ws × vector wt × of class.Three k × has k.0 df
Formed (instr.Indexed k df wd ws rt) = vector wd × vector ws × general rt × of class.Indexed k × has k.0 df
Formed (instr.Imm5U k df wd ws imm) = vector wd × vector ws × (imm < 32) × of class.Imm5U k × has k.0 df
Formed (instr.Imm5S k df wd ws imm) = vector wd × vector ws × (imm < 32) × of class.Imm5S k × has k.0 df
Formed (instr.Ldi df wd imm) = vector wd × (imm < 1024) × has place.ldi df
Formed (instr.Bit k df wd ws m) = vector wd × vector ws × (m < bits df) × of class.Bit k × has k.0 df
Formed (instr.Imm8 k wd ws imm) = vector wd × vector ws × (imm < 256) × of class.Imm8 k
Formed (instr.Shf df wd ws imm) = vector wd × vector ws × (imm < 256) × has place.shf df
Formed (instr.Element k df wd ws n) = vector wd × vector ws × (n < elements df) × of class.Element k × has k.0 df
Formed (instr.Insve df wd n ws) = vector wd × (n < elements df) × vector ws × has place.insve df
Formed (instr.Copy k df rd ws n) = general rd × vector ws × (n < elements df) × of class.Copy k × has k.0 df
Formed (instr.Insert df wd n rs) = vector wd × (n < elements df) × general rs × has place.insert df
Formed (instr.Move wd ws) = vector wd × vector ws
Formed (instr.Cfcmsa rd cs) = general rd × control cs
Formed (instr.Ctcmsa cd rs) = control cd × general rs
Formed (instr.Vec k wd ws wt) = vector wd × vector ws × vector wt × of class.Vec k
Formed (instr.Fill df wd rs) = vector wd × general rs × has place.fill df
Formed (instr.Count k df wd ws) = vector wd × vector ws × of class.Count k × has k.0 df
Formed (instr.Memory k df wd offset rs) = vector wd × (offset < 1024) × general rs × of class.Memory k × has k.0 df
Formed (instr.Branch k df wt offset) = vector wt × (offset < 65536) × of class.Branch k × has k.0 df
Formed (instr.BranchV k wt offset) = vector wt × (offset < 65536) × of class.BranchV k
Formed (instr.Scaled k rd rs rt sa) = general rd × general rs × general rt × (sa < 4) × of class.Scaled k
Formed (instr.Fixed k df wd ws wt) = vector wd × vector ws × vector wt × of class.Fixed k × has k.0 df
