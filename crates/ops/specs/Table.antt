-- The table of operations: a line for each says where it stands in the manual's Tables 3.17 to 3.28, its mnemonic,
-- its formats and what it does. The lines of a block are of one class: they have the same operands at the same bits.
-- Reader, writer, listing and meaning all follow these lines.
use Rattle.std.specs.Prelude.{Bool, cond, List, [], ◌∷◌, ◌++◌, ℕ, eqb}
use Prim.Native.String.{String}
use Rattle.isa.specs.declared.Width.{Width}
use Rattle.isa.specs.declared.Bitwise.TheVariants.{Sll, Sra, Srl, Bclr, Bset, Bneg, Binsl, Binsr}
use Rattle.isa.specs.declared.Basic.{Basic}
use Rattle.isa.specs.declared.Basic.TheVariants.{Addv, Subv, MaxS, MaxU, MinS, MinU}
use Rattle.isa.specs.declared.Absolute.{Absolute}
use Rattle.isa.specs.declared.Absolute.TheVariants.{MaxA, MinA}
use Rattle.isa.specs.declared.Compare.{Compare}
use Rattle.isa.specs.declared.Compare.TheVariants.{Ceq, CltS, CltU, CleS, CleU}
use Rattle.isa.specs.declared.Addition.{Addition}
use Rattle.isa.specs.declared.Addition.TheVariants.{AddA, AddsA, AddsS, AddsU, AveS, AveU, AverS, AverU}
use Rattle.isa.specs.declared.Subtraction.{Subtraction}
use Rattle.isa.specs.declared.Subtraction.TheVariants.{SubsS, SubsU, SubsusU, SubsuuS, AsubS, AsubU}
use Rattle.isa.specs.declared.Product.{Product}
use Rattle.isa.specs.declared.Product.TheVariants.{Mulv, Maddv, Msubv, DivS, DivU, ModS, ModU}
use Rattle.isa.specs.declared.Dot.{Dot}
use Rattle.isa.specs.declared.Dot.TheVariants.{DotpS, DotpU, DpaddS, DpaddU, DpsubS, DpsubU}
use Rattle.isa.specs.declared.Across.{Across}
use Rattle.isa.specs.declared.Across.TheVariants.{HaddS, HaddU, HsubS, HsubU}
use Rattle.isa.specs.declared.Pack.TheVariants.{Pckev, Pckod, Ilvl, Ilvr, Ilvev, Ilvod}
use Rattle.isa.specs.declared.Indexed.{Indexed}
use Rattle.isa.specs.declared.Indexed.TheVariants.{Sld, Splat}
use Rattle.isa.specs.declared.Rounding.TheVariants.{Srar, Srlr}
use Rattle.isa.specs.declared.Saturate.TheVariants.{SatS, SatU}
use Rattle.isa.specs.declared.Logic.{Logic}
use Rattle.isa.specs.declared.Logic.TheVariants.{And, Or, Nor, Xor, Bmnz, Bmz, Bsel}
use Rattle.isa.specs.declared.Copied.{Copied}
use Rattle.isa.specs.declared.Copied.TheVariants.{CopyS, CopyU}
use Rattle.isa.specs.declared.Count.{Count}
use Rattle.isa.specs.declared.Count.TheVariants.{Pcnt, Nloc, Nlzc}
use Rattle.isa.specs.declared.Memory.{Memory}
use Rattle.isa.specs.declared.Memory.TheVariants.{Ld, St}
use Rattle.isa.specs.declared.Zero.{Zero}
use Rattle.isa.specs.declared.Zero.TheVariants.{Bz, Bnz}
use Rattle.isa.specs.declared.Scaled.{Scaled}
use Rattle.isa.specs.declared.Scaled.TheVariants.{Lsa, Dlsa}
use Rattle.isa.specs.declared.Fixed.{Fixed}
use Rattle.isa.specs.declared.Fixed.TheVariants.{MulQ, MaddQ, MsubQ, MulrQ, MaddrQ, MsubrQ}
use Rattle.isa.specs.declared.Arith.{Arith}
use Rattle.isa.specs.declared.Arith.TheVariants as arith
use Rattle.isa.specs.declared.Three.{Three}
use Rattle.isa.specs.declared.Three.TheVariants as three
use Rattle.isa.specs.declared.BitOp.{BitOp}
use Rattle.isa.specs.declared.BitOp.TheVariants as bit
use Rattle.text.specs.Text.{bytes}
use Rattle.ops.specs.declared.Class.{Class}
use Rattle.ops.specs.declared.Class.TheVariants as class
use Rattle.ops.specs.Formats.{Formats, bhwd, hwd, bhw, b, v, bare, hw, has}
use Rattle.ops.specs.Places as place

-- ---- a line

pub record Line (A : Type 0) : Type 0 where
  pub place : ℕ
  pub name : String
  pub formats : Formats
  pub does : A

abbrev at : {A : Type 0} → ℕ → String → Formats → A → Line A
at place name formats does = record { place = place; name = name; formats = formats; does = does }

-- by the minor opcode and the number under it; and by the number alone in the tables that have no minor opcode of
-- their own
abbrev op : {A : Type 0} → ℕ → ℕ → String → Formats → A → Line A
op minor column = at (place.minor minor column)

abbrev float : {A : Type 0} → ℕ → ℕ → String → Formats → A → Line A
float minor n = at (place.float minor n)

abbrev elm : {A : Type 0} → ℕ → String → Formats → A → Line A
elm n = at (place.elm n)

abbrev elm62 : {A : Type 0} → ℕ → String → Formats → A → Line A
elm62 n = at (place.elm62 n)

abbrev vec : {A : Type 0} → ℕ → String → Formats → A → Line A
vec n = at (place.vec n)

abbrev two : {A : Type 0} → ℕ → String → Formats → A → Line A
two n = at (place.two n)

abbrev branch : {A : Type 0} → ℕ → String → Formats → A → Line A
branch n = at (place.branch n)

abbrev special : {A : Type 0} → ℕ → String → Formats → A → Line A
special n = at (place.special n)

-- what the operations of 3R do with numbers
abbrev basic : Basic → Three
basic o = three.Arith (arith.Basic o)

abbrev absolute : Absolute → Three
absolute o = three.Arith (arith.Absolute o)

abbrev compare : Compare → Three
compare o = three.Arith (arith.Compare o)

abbrev addition : Addition → Three
addition o = three.Arith (arith.Addition o)

abbrev subtraction : Subtraction → Three
subtraction o = three.Arith (arith.Subtraction o)

abbrev product : Product → Three
product o = three.Arith (arith.Product o)

abbrev dot : Dot → Three
dot o = three.Arith (arith.Dot o)

abbrev across : Across → Three
across o = three.Arith (arith.Across o)

-- ---- Table 3.25, 3R: bits 25..23 under the minor opcodes 13 to 21

abbrev pub threes : List (Line Three)
threes =
    (op 13 0 "SLL" bhwd (three.Bitwise Sll)
    ∷ op 13 1 "SRA" bhwd (three.Bitwise Sra)
    ∷ op 13 2 "SRL" bhwd (three.Bitwise Srl)
    ∷ op 13 3 "BCLR" bhwd (three.Bitwise Bclr)
    ∷ op 13 4 "BSET" bhwd (three.Bitwise Bset)
    ∷ op 13 5 "BNEG" bhwd (three.Bitwise Bneg)
    ∷ op 13 6 "BINSL" bhwd (three.Bitwise Binsl)
    ∷ op 13 7 "BINSR" bhwd (three.Bitwise Binsr)
    ∷ [])
    ++ (op 14 0 "ADDV" bhwd (basic Addv)
    ∷ op 14 1 "SUBV" bhwd (basic Subv)
    ∷ op 14 2 "MAX_S" bhwd (basic MaxS)
    ∷ op 14 3 "MAX_U" bhwd (basic MaxU)
    ∷ op 14 4 "MIN_S" bhwd (basic MinS)
    ∷ op 14 5 "MIN_U" bhwd (basic MinU)
    ∷ op 14 6 "MAX_A" bhwd (absolute MaxA)
    ∷ op 14 7 "MIN_A" bhwd (absolute MinA)
    ∷ [])
    ++ (op 15 0 "CEQ" bhwd (compare Ceq)
    ∷ op 15 2 "CLT_S" bhwd (compare CltS)
    ∷ op 15 3 "CLT_U" bhwd (compare CltU)
    ∷ op 15 4 "CLE_S" bhwd (compare CleS)
    ∷ op 15 5 "CLE_U" bhwd (compare CleU)
    ∷ [])
    ++ (op 16 0 "ADD_A" bhwd (addition AddA)
    ∷ op 16 1 "ADDS_A" bhwd (addition AddsA)
    ∷ op 16 2 "ADDS_S" bhwd (addition AddsS)
    ∷ op 16 3 "ADDS_U" bhwd (addition AddsU)
    ∷ op 16 4 "AVE_S" bhwd (addition AveS)
    ∷ op 16 5 "AVE_U" bhwd (addition AveU)
    ∷ op 16 6 "AVER_S" bhwd (addition AverS)
    ∷ op 16 7 "AVER_U" bhwd (addition AverU)
    ∷ [])
    ++ (op 17 0 "SUBS_S" bhwd (subtraction SubsS)
    ∷ op 17 1 "SUBS_U" bhwd (subtraction SubsU)
    ∷ op 17 2 "SUBSUS_U" bhwd (subtraction SubsusU)
    ∷ op 17 3 "SUBSUU_S" bhwd (subtraction SubsuuS)
    ∷ op 17 4 "ASUB_S" bhwd (subtraction AsubS)
    ∷ op 17 5 "ASUB_U" bhwd (subtraction AsubU)
    ∷ [])
    ++ (op 18 0 "MULV" bhwd (product Mulv)
    ∷ op 18 1 "MADDV" bhwd (product Maddv)
    ∷ op 18 2 "MSUBV" bhwd (product Msubv)
    ∷ op 18 4 "DIV_S" bhwd (product DivS)
    ∷ op 18 5 "DIV_U" bhwd (product DivU)
    ∷ op 18 6 "MOD_S" bhwd (product ModS)
    ∷ op 18 7 "MOD_U" bhwd (product ModU)
    ∷ [])
    ++ (op 19 0 "DOTP_S" hwd (dot DotpS)
    ∷ op 19 1 "DOTP_U" hwd (dot DotpU)
    ∷ op 19 2 "DPADD_S" hwd (dot DpaddS)
    ∷ op 19 3 "DPADD_U" hwd (dot DpaddU)
    ∷ op 19 4 "DPSUB_S" hwd (dot DpsubS)
    ∷ op 19 5 "DPSUB_U" hwd (dot DpsubU)
    ∷ [])
    ++ (op 20 2 "PCKEV" bhwd (three.Pack Pckev)
    ∷ op 20 3 "PCKOD" bhwd (three.Pack Pckod)
    ∷ op 20 4 "ILVL" bhwd (three.Pack Ilvl)
    ∷ op 20 5 "ILVR" bhwd (three.Pack Ilvr)
    ∷ op 20 6 "ILVEV" bhwd (three.Pack Ilvev)
    ∷ op 20 7 "ILVOD" bhwd (three.Pack Ilvod)
    ∷ [])
    ++ (op 21 0 "VSHF" bhwd three.Vshf
    ∷ op 21 1 "SRAR" bhwd (three.Rounding Srar)
    ∷ op 21 2 "SRLR" bhwd (three.Rounding Srlr)
    ∷ op 21 4 "HADD_S" hwd (across HaddS)
    ∷ op 21 5 "HADD_U" hwd (across HaddU)
    ∷ op 21 6 "HSUB_S" hwd (across HsubS)
    ∷ op 21 7 "HSUB_U" hwd (across HsubU)
    ∷ [])

-- with a general register in the place of wt
abbrev pub indexeds : List (Line Indexed)
indexeds =
    op 20 0 "SLD" bhwd Sld
    ∷ op 20 1 "SPLAT" bhwd Splat
    ∷ []

-- ---- Table 3.20, I5: bits 25..23 under the minor opcodes 6 and 7

-- with an unsigned immediate
abbrev pub imm5_us : List (Line Arith)
imm5_us =
    op 6 0 "ADDVI" bhwd (arith.Basic Addv)
    ∷ op 6 1 "SUBVI" bhwd (arith.Basic Subv)
    ∷ op 6 3 "MAXI_U" bhwd (arith.Basic MaxU)
    ∷ op 6 5 "MINI_U" bhwd (arith.Basic MinU)
    ∷ op 7 3 "CLTI_U" bhwd (arith.Compare CltU)
    ∷ op 7 5 "CLEI_U" bhwd (arith.Compare CleU)
    ∷ []

-- with a signed one
abbrev pub imm5_ss : List (Line Arith)
imm5_ss =
    op 6 2 "MAXI_S" bhwd (arith.Basic MaxS)
    ∷ op 6 4 "MINI_S" bhwd (arith.Basic MinS)
    ∷ op 7 0 "CEQI" bhwd (arith.Compare Ceq)
    ∷ op 7 2 "CLTI_S" bhwd (arith.Compare CltS)
    ∷ op 7 4 "CLEI_S" bhwd (arith.Compare CleS)
    ∷ []

-- I10
abbrev pub ldis : List (Line (Unit {0}))
ldis = at place.ldi "LDI" bhwd tt ∷ []

-- ---- Table 3.28, BIT: bits 25..23 under the minor opcodes 9 and 10

abbrev pub bits : List (Line BitOp)
bits =
    op 9 0 "SLLI" bhwd (bit.Bitwise Sll)
    ∷ op 9 1 "SRAI" bhwd (bit.Bitwise Sra)
    ∷ op 9 2 "SRLI" bhwd (bit.Bitwise Srl)
    ∷ op 9 3 "BCLRI" bhwd (bit.Bitwise Bclr)
    ∷ op 9 4 "BSETI" bhwd (bit.Bitwise Bset)
    ∷ op 9 5 "BNEGI" bhwd (bit.Bitwise Bneg)
    ∷ op 9 6 "BINSLI" bhwd (bit.Bitwise Binsl)
    ∷ op 9 7 "BINSRI" bhwd (bit.Bitwise Binsr)
    ∷ op 10 0 "SAT_S" bhwd (bit.Saturate SatS)
    ∷ op 10 1 "SAT_U" bhwd (bit.Saturate SatU)
    ∷ op 10 2 "SRARI" bhwd (bit.Rounding Srar)
    ∷ op 10 3 "SRLRI" bhwd (bit.Rounding Srlr)
    ∷ []

-- ---- Table 3.21, I8: bits 25..24 under the minor opcodes 0 and 1; under 2 they are the format

abbrev pub imm8s : List (Line Logic)
imm8s =
    op 0 0 "ANDI" b And
    ∷ op 0 1 "ORI" b Or
    ∷ op 0 2 "NORI" b Nor
    ∷ op 0 3 "XORI" b Xor
    ∷ op 1 0 "BMNZI" b Bmnz
    ∷ op 1 1 "BMZI" b Bmz
    ∷ op 1 2 "BSELI" b Bsel
    ∷ []

abbrev pub shfs : List (Line (Unit {0}))
shfs = at place.shf "SHF" bhw tt ∷ []

-- ---- Table 3.26, ELM: bits 25..22 under the minor opcode 25, with a format and an index in bits 21..16

abbrev pub elements : List (Line Indexed)
elements =
    elm 0 "SLDI" bhwd Sld
    ∷ elm 1 "SPLATI" bhwd Splat
    ∷ []

abbrev pub copies : List (Line Copied)
copies =
    elm 2 "COPY_S" bhwd CopyS
    ∷ elm 3 "COPY_U" bhw CopyU
    ∷ []

abbrev pub inserts : List (Line (Unit {0}))
inserts = at place.insert "INSERT" bhwd tt ∷ []

abbrev pub insves : List (Line (Unit {0}))
insves = at place.insve "INSVE" bhwd tt ∷ []

-- the same bits with 111110 in bits 21..16
abbrev pub ctcmsas : List (Line (Unit {0}))
ctcmsas = at place.ctcmsa "CTCMSA" bare tt ∷ []

abbrev pub cfcmsas : List (Line (Unit {0}))
cfcmsas = at place.cfcmsa "CFCMSA" bare tt ∷ []

abbrev pub moves : List (Line (Unit {0}))
moves = at place.move "MOVE" v tt ∷ []

-- ---- Table 3.22, VEC: bits 25..21 under the minor opcode 30

abbrev pub vecs : List (Line Logic)
vecs =
    vec 0 "AND" v And
    ∷ vec 1 "OR" v Or
    ∷ vec 2 "NOR" v Nor
    ∷ vec 3 "XOR" v Xor
    ∷ vec 4 "BMNZ" v Bmnz
    ∷ vec 5 "BMZ" v Bmz
    ∷ vec 6 "BSEL" v Bsel
    ∷ []

-- ---- Table 3.23, 2R: bits 20..18 where bits 25..21 are 11000

abbrev pub fills : List (Line (Unit {0}))
fills = at place.fill "FILL" bhwd tt ∷ []

abbrev pub counts : List (Line Count)
counts =
    two 1 "PCNT" bhwd Pcnt
    ∷ two 2 "NLOC" bhwd Nloc
    ∷ two 3 "NLZC" bhwd Nlzc
    ∷ []

-- ---- Table 3.19, MI10: the minor opcodes 32 and 36, whose last two bits are the format

abbrev pub memories : List (Line Memory)
memories =
    op 32 0 "LD" bhwd Ld
    ∷ op 36 0 "ST" bhwd St
    ∷ []

-- ---- Table 3.17, branches: bits 25..23 of the major opcode 010001

abbrev pub branches : List (Line Zero)
branches =
    branch 6 "BZ" bhwd Bz
    ∷ branch 7 "BNZ" bhwd Bnz
    ∷ []

-- where bits 22..21 are 11
abbrev pub branch_vs : List (Line Zero)
branch_vs =
    branch 2 "BZ" v Bz
    ∷ branch 3 "BNZ" v Bnz
    ∷ []

-- ---- LSA and DLSA: bits 5..0 of the major opcode 000000

abbrev pub scaleds : List (Line Scaled)
scaleds =
    special 5 "LSA" bare Lsa
    ∷ special 21 "DLSA" bare Dlsa
    ∷ []

-- ---- Table 3.27, 3RF: bits 25..22 under the minor opcode 28

abbrev pub fixeds : List (Line Fixed)
fixeds =
    float 28 4 "MUL_Q" hw MulQ
    ∷ float 28 5 "MADD_Q" hw MaddQ
    ∷ float 28 6 "MSUB_Q" hw MsubQ
    ∷ float 28 12 "MULR_Q" hw MulrQ
    ∷ float 28 13 "MADDR_Q" hw MaddrQ
    ∷ float 28 14 "MSUBR_Q" hw MsubrQ
    ∷ []

-- ---- the other cells of Table 3.27, and Table 3.24: assigned, and left out here

abbrev numbered : (ℕ → ℕ) → List ℕ → List ℕ
numbered f [] = []
numbered f (n ∷ ns) = f n ∷ numbered f ns

-- 3RF: bits 25..22 under the minor opcodes 26 to 28. 2RF: 11001 in bits 25..21 of VEC
abbrev pub left_out : List ℕ
left_out =
    numbered (place.float 26) (0 ∷ 1 ∷ 2 ∷ 3 ∷ 4 ∷ 5 ∷ 6 ∷ 7 ∷ 8 ∷ 9 ∷ 10 ∷ 11 ∷ 12 ∷ 13 ∷ 14 ∷ 15 ∷ [])
    ++ numbered (place.float 27) (0 ∷ 1 ∷ 2 ∷ 3 ∷ 4 ∷ 5 ∷ 7 ∷ 8 ∷ 10 ∷ 12 ∷ 13 ∷ 14 ∷ 15 ∷ [])
    ++ numbered (place.float 28) (1 ∷ 2 ∷ 3 ∷ 9 ∷ 10 ∷ 11 ∷ [])
    ++ numbered place.vec (25 ∷ [])

-- ---- the table

-- a line without what it does, and with its block's class
pub record Row : Type 0 where
  pub place : ℕ
  pub name : String
  pub formats : Formats
  pub class : Class

abbrev pub rows : {A : Type 0} → Class → List (Line A) → List Row
rows c [] = []
rows c (l ∷ ls) = record { place = l.place; name = l.name; formats = l.formats; class = c } ∷ rows c ls

abbrev pub left : List ℕ → List Row
left [] = []
left (k ∷ ks) = record { place = k; name = ""; formats = bare; class = class.LeftOut } ∷ left ks

abbrev pub table : List Row
table =
    rows class.Three threes
    ++ rows class.Indexed indexeds
    ++ rows class.Imm5U imm5_us
    ++ rows class.Imm5S imm5_ss
    ++ rows class.Ldi ldis
    ++ rows class.Bit bits
    ++ rows class.Imm8 imm8s
    ++ rows class.Shf shfs
    ++ rows class.Element elements
    ++ rows class.Copy copies
    ++ rows class.Insert inserts
    ++ rows class.Insve insves
    ++ rows class.Ctcmsa ctcmsas
    ++ rows class.Cfcmsa cfcmsas
    ++ rows class.Move moves
    ++ rows class.Vec vecs
    ++ rows class.Fill fills
    ++ rows class.Count counts
    ++ rows class.Memory memories
    ++ rows class.Branch branches
    ++ rows class.BranchV branch_vs
    ++ rows class.Scaled scaleds
    ++ rows class.Fixed fixeds
    ++ left left_out

-- a place that no row has is reserved
abbrev pub absent : Row
absent = record { place = 0; name = ""; formats = bhwd; class = class.Reserved }

abbrev pub find : ℕ → List Row → Row
find k [] = absent
find k (r ∷ rs) = cond (eqb r.place k) r (find k rs)

unfoldable pub row_at : ℕ → Row
row_at k = find k table

-- ---- what the others use of a place

abbrev pub class_at : ℕ → Class
class_at k = (row_at k).class

abbrev pub formats_at : ℕ → Formats
formats_at k = (row_at k).formats

abbrev pub has_form : ℕ → Width → Bool
has_form k df = has (formats_at k) df

abbrev pub mnemonic : ℕ → List ℕ
mnemonic k = bytes (row_at k).name
