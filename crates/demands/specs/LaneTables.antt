-- The instructions whose lanes cannot touch, and what an element is for each (request 8/12): all of the manual's Tables
-- 4.1, 4.2 and 4.7, and the compares of Table 4.8. A line is a row of the table as the manual prints it.
use Rattle.std.specs.Prelude.{◌≡◌, Bool, true, false, cond, List, [], ◌∷◌, ◌++◌, ◌⊎◌, ℕ, Ok}
use Prim.Native.String.{String}
use Rattle.isa.specs.declared.Instr.{Instr}
use Rattle.isa.specs.Widths.{bits}
use Rattle.ops.specs.Names.{same}
use Rattle.ops.specs.Table.{mnemonic}
use Rattle.reading.specs.Reading.{read_of}
use Rattle.shown.specs.declared.Form.{Form}
use Rattle.shown.specs.declared.Form.TheVariants.{Bare, Each, Whole}
use Rattle.shown.specs.Shown.{shown_of}
use Rattle.text.specs.Text.{bytes}
use Rattle.demands.specs.Tables.{Some}

-- what an element is: one of the format, one of the result's width, any one bit; or the mnemonic is not listed
pub data Element : Type 0 where
  of_format of_result one_bit unlisted : Element

-- a row: what an element is, and the mnemonics
pub record Printed : Type 0 where
  pub element : Element
  pub names : List String

abbrev lane : List String → Printed
lane names = record { element = of_format; names = names }

abbrev wide : List String → Printed
wide names = record { element = of_result; names = names }

abbrev single : List String → Printed
single names = record { element = one_bit; names = names }

-- Table 4.1, integer arithmetic
abbrev pub arithmetic : List Printed
arithmetic =
    lane ("ADDV" ∷ "ADDVI" ∷ [])
    ∷ lane ("ADD_A" ∷ "ADDS_A" ∷ [])
    ∷ lane ("ADDS_S" ∷ "ADDS_U" ∷ [])
    ∷ wide ("HADD_S" ∷ "HADD_U" ∷ [])
    ∷ lane ("ASUB_S" ∷ "ASUB_U" ∷ [])
    ∷ lane ("AVE_S" ∷ "AVE_U" ∷ [])
    ∷ lane ("AVER_S" ∷ "AVER_U" ∷ [])
    ∷ wide ("DOTP_S" ∷ "DOTP_U" ∷ [])
    ∷ wide ("DPADD_S" ∷ "DPADD_U" ∷ [])
    ∷ wide ("DPSUB_S" ∷ "DPSUB_U" ∷ [])
    ∷ lane ("DIV_S" ∷ "DIV_U" ∷ [])
    ∷ lane ("MADDV" ∷ [])
    ∷ lane ("MAX_A" ∷ "MIN_A" ∷ [])
    ∷ lane ("MAX_S" ∷ "MAXI_S" ∷ "MAX_U" ∷ "MAXI_U" ∷ [])
    ∷ lane ("MIN_S" ∷ "MINI_S" ∷ "MIN_U" ∷ "MINI_U" ∷ [])
    ∷ lane ("MSUBV" ∷ [])
    ∷ lane ("MULV" ∷ [])
    ∷ lane ("MOD_S" ∷ "MOD_U" ∷ [])
    ∷ lane ("SAT_S" ∷ "SAT_U" ∷ [])
    ∷ lane ("SUBS_S" ∷ "SUBS_U" ∷ [])
    ∷ wide ("HSUB_S" ∷ "HSUB_U" ∷ [])
    ∷ lane ("SUBSUU_S" ∷ [])
    ∷ lane ("SUBSUS_U" ∷ [])
    ∷ lane ("SUBV" ∷ "SUBVI" ∷ [])
    ∷ []

-- Table 4.2, bitwise
abbrev pub bitwise : List Printed
bitwise =
    single ("AND" ∷ "ANDI" ∷ [])
    ∷ lane ("BCLR" ∷ "BCLRI" ∷ [])
    ∷ lane ("BINSL" ∷ "BINSLI" ∷ "BINSR" ∷ "BINSRI" ∷ [])
    ∷ single ("BMNZ" ∷ "BMNZI" ∷ [])
    ∷ single ("BMZ" ∷ "BMZI" ∷ [])
    ∷ lane ("BNEG" ∷ "BNEGI" ∷ [])
    ∷ single ("BSEL" ∷ "BSELI" ∷ [])
    ∷ lane ("BSET" ∷ "BSETI" ∷ [])
    ∷ lane ("NLOC" ∷ [])
    ∷ lane ("NLZC" ∷ [])
    ∷ single ("NOR" ∷ "NORI" ∷ [])
    ∷ lane ("PCNT" ∷ [])
    ∷ single ("OR" ∷ "ORI" ∷ [])
    ∷ lane ("SLL" ∷ "SLLI" ∷ [])
    ∷ lane ("SRA" ∷ "SRAI" ∷ [])
    ∷ lane ("SRAR" ∷ "SRARI" ∷ [])
    ∷ lane ("SRL" ∷ "SRLI" ∷ [])
    ∷ lane ("SRLR" ∷ "SRLRI" ∷ [])
    ∷ single ("XOR" ∷ "XORI" ∷ [])
    ∷ []

-- Table 4.7, fixed point
abbrev pub fixed_point : List Printed
fixed_point =
    lane ("MADD_Q" ∷ "MADDR_Q" ∷ [])
    ∷ lane ("MSUB_Q" ∷ "MSUBR_Q" ∷ [])
    ∷ lane ("MUL_Q" ∷ "MULR_Q" ∷ [])
    ∷ []

-- Table 4.8 but for the branches
abbrev pub compares : List Printed
compares =
    lane ("CEQ" ∷ "CEQI" ∷ [])
    ∷ lane ("CLE_S" ∷ "CLEI_S" ∷ "CLE_U" ∷ "CLEI_U" ∷ [])
    ∷ lane ("CLT_S" ∷ "CLTI_S" ∷ "CLT_U" ∷ "CLTI_U" ∷ [])
    ∷ []

-- the branches of Table 4.8, and Tables 4.9, 4.10 and 4.11: loads, stores and moves, permutes, LSA and DLSA
abbrev pub others : List String
others =
    ("BNZ" ∷ "BZ" ∷ [])
    ++ ("CFCMSA" ∷ "CTCMSA" ∷ "LD" ∷ "LDI" ∷ "MOVE" ∷ "SPLAT" ∷ "SPLATI" ∷ "FILL" ∷ "INSERT" ∷ "INSVE" ∷ [])
    ++ ("COPY_S" ∷ "COPY_U" ∷ "ST" ∷ [])
    ++ ("ILVEV" ∷ "ILVOD" ∷ "ILVL" ∷ "ILVR" ∷ "PCKEV" ∷ "PCKOD" ∷ "SHF" ∷ "SLD" ∷ "SLDI" ∷ "VSHF" ∷ [])
    ++ ("LSA" ∷ "DLSA" ∷ [])

-- ---- the element of an instruction

abbrev pub listed : List ℕ → List String → Bool
listed x [] = false
listed x (y ∷ ys) = cond (same (bytes y) x) true (listed x ys)

abbrev pub element_named : List ℕ → List Printed → Element
element_named x [] = unlisted
element_named x (r ∷ rs) = cond (listed x r.names) r.element (element_named x rs)

-- by the mnemonic of the operation at a place
unfoldable pub element_at : ℕ → Element
element_at k = element_named (mnemonic k) (arithmetic ++ bitwise ++ fixed_point ++ compares)

-- it has n bits; the format of HADD, HSUB, DOTP, DPADD and DPSUB is the result's: the elements that they add and
-- multiply are half as wide
abbrev pub HasBits : Element → Form → ℕ → Type 0
HasBits of_format (Each df) n = n ≡ bits df
HasBits of_format Whole n = ⊥
HasBits of_format Bare n = ⊥
HasBits of_result (Each df) n = n ≡ bits df
HasBits of_result Whole n = ⊥
HasBits of_result Bare n = ⊥
HasBits one_bit form n = n ≡ 1
HasBits unlisted form n = ⊥

-- an instruction of these tables, whose element has n bits
abbrev pub ElementBits : Instr → ℕ → Type 0
ElementBits i n = HasBits (element_at (shown_of i).name) (shown_of i).form n

-- no instruction is forgotten: one that a word reads as has an element, or is of the other tables
abbrev pub EachListed : Type 0
EachListed =
    (w : ℕ) (i : Instr) → read_of w ≡ Ok i
    → Some (ElementBits i) ⊎ (listed (mnemonic (shown_of i).name) others ≡ true)
