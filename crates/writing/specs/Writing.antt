-- The word of an instruction: a layout for each class, widths and values of its fields, the highest first. The
-- operation's place goes into the word as it is.
use Rattle.std.specs.Prelude.{◌≡◌, Bool, true, List, [], ◌∷◌, ℕ, ◌+◌, ◌/◌, ◌%◌, eqb, ltb, length, Option, Some, None}
use Rattle.isa.specs.declared.Width.{Width}
use Rattle.isa.specs.declared.Width.TheVariants.{B, H, W, D}
use Rattle.isa.specs.declared.Op.{Op}
use Rattle.isa.specs.declared.Instr.{Instr}
use Rattle.isa.specs.declared.Instr.TheVariants as instr
use Rattle.writing.specs.declared.Layout.{Layout}
use Rattle.fields.specs.Fields.{pick, both, total, word_of, fits}
use Rattle.ops.specs.declared.Class.{Class}
use Rattle.ops.specs.declared.Class.TheVariants as class
use Rattle.ops.specs.Packed.{class_code}
use Rattle.ops.specs.Places as place
use Rattle.ops.specs.Table.{class_at, has_form}
use Rattle.isa.specs.Numbers.{written_said}
use Rattle.isa.specs.Widths as format
use Rattle.isa.specs.Widths.{width_code, hw_code}

-- the widths of the fields, Figures 3-36 to 3-47 and the page of LSA; seven each, the last ones 0 where there are fewer
abbrev pub i8 : List ℕ
i8 = 6 ∷ 2 ∷ 8 ∷ 5 ∷ 5 ∷ 6 ∷ 0 ∷ []

abbrev pub i5 : List ℕ
i5 = 6 ∷ 3 ∷ 2 ∷ 5 ∷ 5 ∷ 5 ∷ 6 ∷ []

abbrev pub i10 : List ℕ
i10 = 6 ∷ 3 ∷ 2 ∷ 10 ∷ 5 ∷ 6 ∷ 0 ∷ []

abbrev pub bit : List ℕ
bit = 6 ∷ 3 ∷ 7 ∷ 5 ∷ 5 ∷ 6 ∷ 0 ∷ []

abbrev pub elm : List ℕ
elm = 6 ∷ 4 ∷ 6 ∷ 5 ∷ 5 ∷ 6 ∷ 0 ∷ []

abbrev pub vec : List ℕ
vec = 6 ∷ 5 ∷ 5 ∷ 5 ∷ 5 ∷ 6 ∷ 0 ∷ []

abbrev pub float : List ℕ
float = 6 ∷ 4 ∷ 1 ∷ 5 ∷ 5 ∷ 5 ∷ 6 ∷ []

abbrev pub two : List ℕ
two = 6 ∷ 5 ∷ 3 ∷ 2 ∷ 5 ∷ 5 ∷ 6 ∷ []

abbrev pub mi10 : List ℕ
mi10 = 6 ∷ 10 ∷ 5 ∷ 5 ∷ 4 ∷ 2 ∷ 0 ∷ []

abbrev pub branch : List ℕ
branch = 6 ∷ 3 ∷ 2 ∷ 5 ∷ 16 ∷ 0 ∷ 0 ∷ []

abbrev pub special : List ℕ
special = 6 ∷ 5 ∷ 5 ∷ 5 ∷ 3 ∷ 2 ∷ 6 ∷ []

-- Table 3.14: a format and a bit's index in one field
abbrev pub bit_code : Width → ℕ → ℕ
bit_code B m = 112 + m
bit_code H m = 96 + m
bit_code W m = 64 + m
bit_code D m = m

-- Table 3.13: a format and an element's index in one field
abbrev pub element_code : Width → ℕ → ℕ
element_code B n = n
element_code H n = 32 + n
element_code W n = 48 + n
element_code D n = 56 + n

-- whether an operation is one of its class, and has its format
abbrev pub stands : Class → Op → Bool
stands c k = eqb (class_code (class_at k.0)) (class_code c)

abbrev pub formed : Class → Op → Width → Bool
formed c k df = both (stands c k) (has_form k.0 df)

-- whether the instruction has its format and index, and its fields
abbrev layout : Bool → List ℕ → List ℕ → Layout
layout ok widths values = record { ok = ok; widths = widths; values = values }

-- the layouts that several classes have: I5 and 3R, I8, ELM, 2R, and the branches
abbrev pub five_layout : Bool → Op → Width → ℕ → ℕ → ℕ → Layout
five_layout ok k df t s d = layout ok i5 (30 ∷ k.0 % 8 ∷ width_code df ∷ t ∷ s ∷ d ∷ k.0 / 8 ∷ [])

abbrev pub eight_layout : Bool → ℕ → ℕ → ℕ → ℕ → ℕ → Layout
eight_layout ok column imm s d m = layout ok i8 (30 ∷ column ∷ imm ∷ s ∷ d ∷ m ∷ 0 ∷ [])

abbrev pub elm_layout : Bool → ℕ → ℕ → ℕ → ℕ → Layout
elm_layout ok n index s d = layout ok elm (30 ∷ n ∷ index ∷ s ∷ d ∷ 25 ∷ 0 ∷ [])

abbrev pub two_layout : Bool → ℕ → Width → ℕ → ℕ → Layout
two_layout ok n df s d = layout ok two (30 ∷ 24 ∷ n ∷ width_code df ∷ s ∷ d ∷ 30 ∷ [])

abbrev pub branch_layout : Bool → Op → ℕ → ℕ → ℕ → Layout
branch_layout ok k df t offset = layout ok branch (17 ∷ k.0 % 8 ∷ df ∷ t ∷ offset ∷ 0 ∷ 0 ∷ [])

abbrev pub layout_of : Instr → Layout
layout_of (instr.Three k df wd ws wt) = five_layout (formed class.Three k df) k df wt.0 ws.0 wd.0
layout_of (instr.Indexed k df wd ws rt) = five_layout (formed class.Indexed k df) k df rt.0 ws.0 wd.0
layout_of (instr.Imm5U k df wd ws imm) = five_layout (formed class.Imm5U k df) k df imm ws.0 wd.0
layout_of (instr.Imm5S k df wd ws imm) = five_layout (formed class.Imm5S k df) k df imm ws.0 wd.0
layout_of (instr.Ldi df wd imm) = layout (has_form place.ldi df) i10 (30 ∷ 6 ∷ width_code df ∷ imm ∷ wd.0 ∷ 7 ∷ 0 ∷ [])
layout_of (instr.Bit k df wd ws m) =
    layout (both (formed class.Bit k df) (ltb m (format.bits df))) bit
    (30 ∷ k.0 % 8 ∷ bit_code df m ∷ ws.0 ∷ wd.0 ∷ k.0 / 8 ∷ 0 ∷ [])
layout_of (instr.Imm8 k wd ws imm) = eight_layout (stands class.Imm8 k) (k.0 % 8) imm ws.0 wd.0 (k.0 / 8)
layout_of (instr.Shf df wd ws imm) = eight_layout (has_form place.shf df) (width_code df) imm ws.0 wd.0 2
layout_of (instr.Element k df wd ws n) =
    elm_layout (both (formed class.Element k df) (ltb n (format.elements df))) (k.0 % 16) (element_code df n) ws.0
    wd.0
layout_of (instr.Insve df wd n ws) =
    elm_layout (both (has_form place.insve df) (ltb n (format.elements df))) 5 (element_code df n) ws.0 wd.0
layout_of (instr.Copy k df rd ws n) =
    elm_layout (both (formed class.Copy k df) (ltb n (format.elements df))) (k.0 % 16) (element_code df n) ws.0
    rd.0
layout_of (instr.Insert df wd n rs) =
    elm_layout (both (has_form place.insert df) (ltb n (format.elements df))) 4 (element_code df n) rs.0 wd.0
layout_of (instr.Move wd ws) = elm_layout true 2 62 ws.0 wd.0
layout_of (instr.Cfcmsa rd cs) = elm_layout true 1 62 cs.0 rd.0
layout_of (instr.Ctcmsa cd rs) = elm_layout true 0 62 rs.0 cd.0
layout_of (instr.Vec k wd ws wt) =
    layout (stands class.Vec k) vec (30 ∷ k.0 % 32 ∷ wt.0 ∷ ws.0 ∷ wd.0 ∷ 30 ∷ 0 ∷ [])
layout_of (instr.Fill df wd rs) = two_layout (has_form place.fill df) 0 df rs.0 wd.0
layout_of (instr.Count k df wd ws) = two_layout (formed class.Count k df) (k.0 % 8) df ws.0 wd.0
layout_of (instr.Memory k df wd offset rs) =
    layout (formed class.Memory k df) mi10 (30 ∷ offset ∷ rs.0 ∷ wd.0 ∷ k.0 / 32 ∷ width_code df ∷ 0 ∷ [])
layout_of (instr.Branch k df wt offset) = branch_layout (formed class.Branch k df) k (width_code df) wt.0 offset
layout_of (instr.BranchV k wt offset) = branch_layout (stands class.BranchV k) k 3 wt.0 offset
layout_of (instr.Scaled k rd rs rt sa) =
    layout (stands class.Scaled k) special (0 ∷ rs.0 ∷ rt.0 ∷ rd.0 ∷ 0 ∷ sa ∷ k.0 % 64 ∷ [])
layout_of (instr.Fixed k df wd ws wt) =
    layout (formed class.Fixed k df) float (30 ∷ k.0 % 16 ∷ hw_code df ∷ wt.0 ∷ ws.0 ∷ wd.0 ∷ 28 ∷ [])

-- seven fields that fill a word
pub record Shaped (widths values : List ℕ) : Type 0 where
  pub fields : length widths ≡ 7
  pub filled : length values ≡ 7
  pub whole : total widths ≡ 32

-- the word, where each value fits its field
abbrev pub packed : List ℕ → List ℕ → Option ℕ
packed widths values = pick (fits widths values) (Some (word_of widths values)) None

abbrev pub sealed : Layout → Option ℕ
sealed l = pick l.ok (packed l.widths l.values) None

unfoldable pub write_of : Instr → Option ℕ
write_of i = sealed (layout_of i)

-- what writing an instruction promises: the answer says what the definition says
pub record Writes (i : Instr) (r : Option ℕ) : Type 0 where
  pub said : written_said r ≡ written_said (write_of i)
