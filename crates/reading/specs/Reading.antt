-- What a word reads as: its operation's place in the table, and the operands that the class there has.
use Rattle.std.specs.Prelude.{◌≡◌, Bool, cond, ℕ, ◌*◌, ltb, eqb, Ok, Err, Result}
use Rattle.isa.specs.declared.Vreg.{Vreg}
use Rattle.isa.specs.declared.Greg.{Greg}
use Rattle.isa.specs.declared.Creg.{Creg}
use Rattle.isa.specs.declared.Op.{Op}
use Rattle.isa.specs.declared.Width.{Width}
use Rattle.isa.specs.declared.Instr.{Instr}
use Rattle.isa.specs.declared.Instr.TheVariants as instr
use Rattle.isa.specs.declared.Unread.TheVariants.{Unassigned, LeftOut, Other}
use Rattle.isa.specs.declared.Unread.{Unread}
use Rattle.ops.specs.declared.Class.{Class}
use Rattle.ops.specs.declared.Class.TheVariants as class
use Rattle.isa.specs.Numbers.{read_said}
use Rattle.isa.specs.Widths.{width_at, hw_at}
use Rattle.fields.specs.Fields.{bits, both}
use Rattle.ops.specs.Formats.{Formats, has}
use Rattle.ops.specs.Places as place
use Rattle.ops.specs.Table.{class_at, formats_at}
use Rattle.reading.specs.Index.{bit_index, element_index}

-- ---- where a word's operation stands

-- the tables, by the bits that tell the operation
pub data Block : Type 0 where
  i8 shf minor elm elm62 vec float two mi10 branch special other : Block

-- Table 3.18, by the minor opcode
abbrev pub high_block : ℕ → Block
high_block w =
    cond (ltb (bits w 5 0) 26) (cond (eqb (bits w 21 16) 62) elm62 elm)
    (cond (ltb (bits w 5 0) 29) float
    (cond (eqb (bits w 5 0) 30) (cond (eqb (bits w 25 21) 24) two vec)
    (cond (ltb (bits w 5 0) 32) other
    (cond (ltb (bits w 5 0) 40) mi10 other))))

abbrev pub msa_block : ℕ → Block
msa_block w =
    cond (ltb (bits w 5 0) 2) i8
    (cond (ltb (bits w 5 0) 3) shf
    (cond (ltb (bits w 5 0) 25) minor (high_block w)))

-- Table 3.16, by the major opcode
abbrev pub block_of : ℕ → Block
block_of w =
    cond (eqb (bits w 31 26) 30) (msa_block w)
    (cond (eqb (bits w 31 26) 17) branch
    (cond (eqb (bits w 31 26) 0) special other))

abbrev pub place_in : Block → ℕ → ℕ
place_in i8 w = place.minor (bits w 5 0) (bits w 25 24)
place_in shf w = place.shf
place_in minor w = place.minor (bits w 5 0) (bits w 25 23)
place_in elm w = place.elm (bits w 25 22)
place_in elm62 w = place.elm62 (bits w 25 22)
place_in vec w = place.vec (bits w 25 21)
place_in float w = place.float (bits w 5 0) (bits w 25 22)
place_in two w = place.two (bits w 20 18)
place_in mi10 w = place.minor (bits w 5 2 * 4) 0
place_in branch w = place.branch (bits w 25 23)
place_in special w = place.special (bits w 5 0)
place_in other w = place.past

unfoldable pub place_of : ℕ → ℕ
place_of w = place_in (block_of w) w

-- ---- the operands, by the register file that they name and the place where they stand

abbrev pub op : ℕ → Op
op k = record { 0 = k }

abbrev pub df : ℕ → Width
df w = width_at (bits w 22 21)

abbrev pub hw : ℕ → Width
hw w = hw_at (bits w 21 21)

abbrev pub vt : ℕ → Vreg
vt w = record { 0 = bits w 20 16 }

abbrev pub vs : ℕ → Vreg
vs w = record { 0 = bits w 15 11 }

abbrev pub vd : ℕ → Vreg
vd w = record { 0 = bits w 10 6 }

abbrev pub ga : ℕ → Greg
ga w = record { 0 = bits w 25 21 }

abbrev pub gt : ℕ → Greg
gt w = record { 0 = bits w 20 16 }

abbrev pub gs : ℕ → Greg
gs w = record { 0 = bits w 15 11 }

abbrev pub gd : ℕ → Greg
gd w = record { 0 = bits w 10 6 }

abbrev pub cs : ℕ → Creg
cs w = record { 0 = bits w 15 11 }

abbrev pub cd : ℕ → Creg
cd w = record { 0 = bits w 10 6 }

-- ---- the answer

-- a word that is no instruction: 12 under the major opcode 011110, 14 under another
abbrev pub vacant : ℕ → Result Instr Unread
vacant w = Err (cond (eqb (bits w 31 26) 30) Unassigned Other)

abbrev pub given : ℕ → Bool → Instr → Result Instr Unread
given w ok i = cond ok (Ok i) (vacant w)

-- by the class and the formats at the operation's place k
abbrev pub read_class : Class → Formats → ℕ → ℕ → Result Instr Unread
read_class class.Reserved f k w = vacant w
read_class class.Three f k w = given w (has f (df w)) (instr.Three (op k) (df w) (vd w) (vs w) (vt w))
read_class class.Indexed f k w = given w (has f (df w)) (instr.Indexed (op k) (df w) (vd w) (vs w) (gt w))
read_class class.Imm5U f k w = given w (has f (df w)) (instr.Imm5U (op k) (df w) (vd w) (vs w) (bits w 20 16))
read_class class.Imm5S f k w = given w (has f (df w)) (instr.Imm5S (op k) (df w) (vd w) (vs w) (bits w 20 16))
read_class class.Ldi f k w = given w (has f (df w)) (instr.Ldi (df w) (vd w) (bits w 20 11))
read_class class.Bit f k w =
    let x = bit_index (bits w 22 16) in
    given w (both x.ok (has f x.df)) (instr.Bit (op k) x.df (vd w) (vs w) x.n)
read_class class.Imm8 f k w = Ok (instr.Imm8 (op k) (vd w) (vs w) (bits w 23 16))
read_class class.Shf f k w =
    given w (has f (width_at (bits w 25 24))) (instr.Shf (width_at (bits w 25 24)) (vd w) (vs w) (bits w 23 16))
read_class class.Element f k w =
    let x = element_index (bits w 21 16) in
    given w (both x.ok (has f x.df)) (instr.Element (op k) x.df (vd w) (vs w) x.n)
read_class class.Insve f k w =
    let x = element_index (bits w 21 16) in
    given w (both x.ok (has f x.df)) (instr.Insve x.df (vd w) x.n (vs w))
read_class class.Copy f k w =
    let x = element_index (bits w 21 16) in
    given w (both x.ok (has f x.df)) (instr.Copy (op k) x.df (gd w) (vs w) x.n)
read_class class.Insert f k w =
    let x = element_index (bits w 21 16) in
    given w (both x.ok (has f x.df)) (instr.Insert x.df (vd w) x.n (gs w))
read_class class.Move f k w = Ok (instr.Move (vd w) (vs w))
read_class class.Cfcmsa f k w = Ok (instr.Cfcmsa (gd w) (cs w))
read_class class.Ctcmsa f k w = Ok (instr.Ctcmsa (cd w) (gs w))
read_class class.Vec f k w = Ok (instr.Vec (op k) (vd w) (vs w) (vt w))
read_class class.Fill f k w =
    given w (has f (width_at (bits w 17 16))) (instr.Fill (width_at (bits w 17 16)) (vd w) (gs w))
read_class class.Count f k w =
    given w (has f (width_at (bits w 17 16))) (instr.Count (op k) (width_at (bits w 17 16)) (vd w) (vs w))
read_class class.Memory f k w =
    given w (has f (width_at (bits w 1 0)))
    (instr.Memory (op k) (width_at (bits w 1 0)) (vd w) (bits w 25 16) (gs w))
read_class class.Branch f k w = given w (has f (df w)) (instr.Branch (op k) (df w) (vt w) (bits w 15 0))
read_class class.BranchV f k w = given w (eqb (bits w 22 21) 3) (instr.BranchV (op k) (vt w) (bits w 15 0))
read_class class.Scaled f k w = given w (eqb (bits w 10 8) 0) (instr.Scaled (op k) (gs w) (ga w) (gt w) (bits w 7 6))
read_class class.LeftOut f k w = Err LeftOut
read_class class.Fixed f k w = given w (has f (hw w)) (instr.Fixed (op k) (hw w) (vd w) (vs w) (vt w))

unfoldable pub read_of : ℕ → Result Instr Unread
read_of w = read_class (class_at (place_of w)) (formats_at (place_of w)) (place_of w) w

-- what reading a word promises: the answer says what the definition says
pub record Reads (w : ℕ) (r : Result Instr Unread) : Type 0 where
  pub said : read_said r ≡ read_said (read_of w)
