-- Document 01's sums marked P, in its order, one list: what the definitions give of an instruction, and what the paper
-- says; request 1/12's, of division by 0; request 2/12's, of fixed-point multiplies; and request 7/12's, by Table 3.1.
use Rattle.std.specs.Prelude.{◌≡◌, true, List, [], ◌∷◌, ◌++◌, ℕ, ◌+◌, ◌-◌, ◌*◌, ◌/◌, ◌%◌, ◌^◌, replicate, Ok, Some}
use Prim.Native.String.{String}
use Rattle.isa.specs.declared.Across.TheVariants.{HsubS}
use Rattle.isa.specs.declared.Addition.TheVariants.{AddA, AddsA, AveS, AverS}
use Rattle.isa.specs.declared.Arith.{Arith}
use Rattle.isa.specs.declared.Arith.TheVariants as arith
use Rattle.isa.specs.declared.Dot.TheVariants.{DotpS}
use Rattle.isa.specs.declared.Fixed.{Fixed}
use Rattle.isa.specs.declared.Fixed.TheVariants.{MulQ, MaddQ, MsubQ, MulrQ, MaddrQ, MsubrQ}
use Rattle.isa.specs.declared.Greg.{Greg}
use Rattle.isa.specs.declared.Instr.{Instr}
use Rattle.isa.specs.declared.Instr.TheVariants as instr
use Rattle.isa.specs.declared.Op.{Op}
use Rattle.isa.specs.declared.Product.{Product}
use Rattle.isa.specs.declared.Product.TheVariants.{DivS, DivU, ModS, ModU}
use Rattle.isa.specs.declared.Subtraction.TheVariants.{SubsuuS, AsubS}
use Rattle.isa.specs.declared.Three.TheVariants as three
use Rattle.isa.specs.declared.Vreg.{Vreg}
use Rattle.isa.specs.declared.Width.{Width}
use Rattle.isa.specs.declared.Width.TheVariants.{B, W, D}
use Rattle.memory.specs.Bytes.{number, bytes_of}
use Rattle.memory.specs.Value.{register}
use Rattle.order.specs.declared.Order.{Order}
use Rattle.order.specs.declared.Order.TheVariants.{Little, Big}
use Rattle.ops.specs.Places as place
use Rattle.ops.specs.Table.{row_at}
use Rattle.forms.specs.Forms.{three_of, fixed_of}
use Rattle.plan.specs.declared.Plan.TheVariants as plan
use Rattle.plan.specs.Plan.{plan_of}
use Rattle.reading.specs.Reading.{read_of}
use Rattle.state.specs.declared.control.Mark.TheVariants.{Clear, Taken}
use Rattle.state.specs.Machine.{Env, env, Machine, machine}
use Rattle.writing.specs.Writing.{write_of}

pub record Sum : Type 1 where
  pub of : Type 0
  pub computed : of
  pub expected : of

abbrev sum : {A : Type 0} → A → A → Sum
sum {A} c e = record { of = A; computed = c; expected = e }

abbrev pub Agree : List Sum → Type 0
Agree [] = Unit {0}
Agree (s ∷ ss) = (s.computed ≡ s.expected) × Agree ss

abbrev $w : ℕ → Vreg
$w n = record { 0 = n }

abbrev $ : ℕ → Greg
$ n = record { 0 = n }

-- the operation at a place
abbrev op : ℕ → Op
op k = record { 0 = k }

-- ADDV.W $w5,$w1,$w2
abbrev addv : Instr
addv = instr.Three (op (place.minor 14 0)) W ($w 5) ($w 1) ($w 2)

-- ADDVI.W $w7,$w1,17
abbrev addvi : Instr
addvi = instr.Imm5U (op (place.minor 6 0)) W ($w 7) ($w 1) 17

-- BNZ.B $w3,−2
abbrev bnz : Instr
bnz = instr.Branch (op (place.branch 7)) B ($w 3) 0xFFFE

-- LSA $1,$2,$3,1: the field is the shift less one
abbrev lsa : Instr
lsa = instr.Scaled (op (place.special 5)) ($ 1) ($ 2) ($ 3) 0

-- the mnemonics of these four
abbrev named : ℕ → String → Sum
named k name = sum (row_at k).name name

abbrev pub names : List Sum
names =
    named (place.minor 14 0) "ADDV"
    ∷ named (place.minor 6 0) "ADDVI"
    ∷ named (place.branch 7) "BNZ"
    ∷ named (place.special 5) "LSA"
    ∷ []

-- a machine at address a, with its switch on and its slot mark clear
abbrev at : ℕ → List ℕ → List ℕ → List ℕ → Machine
at a v g w = machine v g w (record { pc = a; mark = Clear; csr = 0; on = true })

-- vector registers of which no byte is zero; general registers with 40000000 hex in $2 and 0 in the others
abbrev no_zero : List ℕ
no_zero = replicate 512 1

abbrev second : List ℕ
second = replicate 16 0 ++ 0 ∷ 0 ∷ 0 ∷ 0x40 ∷ replicate 236 0

-- a register with x in each of its bytes, and in each of its halfwords
abbrev bytes : ℕ → ℕ
bytes x = x * 0x01010101010101010101010101010101

abbrev halves : ℕ → ℕ
halves x = x * 0x00010001000100010001000100010001

-- a 3R operation on registers of bytes, and of halfwords; the old destination is 0
abbrev byte : Arith → ℕ → ℕ → ℕ
byte o s t = three_of (three.Arith o) 8 0 (bytes s) (bytes t)

abbrev half : Arith → ℕ → ℕ → ℕ
half o s t = three_of (three.Arith o) 16 0 (halves s) (halves t)

-- of bytes s by 00
abbrev byte_by_zero : Product → ℕ → ℕ → Sum
byte_by_zero o s r = sum (byte (arith.Product o) s 0x00) (bytes r)

abbrev pub zeros : List Sum
zeros =
    byte_by_zero DivS 0x80 0x01
    ∷ byte_by_zero DivS 0x7F 0xFF
    ∷ byte_by_zero DivS 0x00 0xFF
    ∷ byte_by_zero DivU 0x80 0xFF
    ∷ byte_by_zero DivU 0x7F 0xFF
    ∷ byte_by_zero DivU 0x00 0xFF
    ∷ byte_by_zero ModS 0x80 0x80
    ∷ byte_by_zero ModS 0x7F 0x7F
    ∷ byte_by_zero ModS 0x00 0x00
    ∷ byte_by_zero ModU 0x80 0x80
    ∷ byte_by_zero ModU 0x7F 0x7F
    ∷ byte_by_zero ModU 0x00 0x00
    ∷ []

-- ---- fixed-point multiplies

-- MSUBR_Q.W $w23,$w11,$w27
abbrev msubr : Instr
msubr = instr.Fixed (op (place.float 28 14)) W ($w 23) ($w 11) ($w 27)

-- a register with x in each of its words
abbrev words : ℕ → ℕ
words x = x * 0x00000001000000010000000100000001

-- of halfwords and of words s and t, and of the old destination d
abbrev of_halves : Fixed → ℕ → ℕ → ℕ → ℕ → Sum
of_halves o d s t r = sum (fixed_of o 16 (halves d) (halves s) (halves t)) (halves r)

abbrev of_words : Fixed → ℕ → ℕ → ℕ → ℕ → Sum
of_words o d s t r = sum (fixed_of o 32 (words d) (words s) (words t)) (words r)

-- −1 times −1 is the largest; half a unit is rounded up, and cut off; a sum is clamped, at the top and at the bottom; a
-- product of 1 is not clamped before the sum; minus half a unit is cut to minus one unit, and rounded to 0
abbrev pub multiplies : List Sum
multiplies =
    sum (write_of msubr) (Some 0x7BBB5DDC)
    ∷ sum (read_of 0x7BBB5DDC) (Ok msubr)
    ∷ of_halves MulQ 0x0000 0x8000 0x8000 0x7FFF
    ∷ of_halves MulrQ 0x0000 0x4000 0x0001 0x0001
    ∷ of_halves MulQ 0x0000 0x4000 0x0001 0x0000
    ∷ of_halves MaddQ 0x7FFF 0x4000 0x4000 0x7FFF
    ∷ of_halves MsubQ 0x8000 0x8000 0x8000 0x8000
    ∷ of_words MaddQ 0x80000000 0x80000000 0x80000000 0x00000000
    ∷ of_words MulQ 0x00000000 0xFFFFFFFF 0x40000000 0xFFFFFFFF
    ∷ of_words MulrQ 0x00000000 0xFFFFFFFF 0x40000000 0x00000000
    ∷ of_halves MsubrQ 0x0000 0x4000 0x0001 0x0000
    ∷ of_halves MaddrQ 0xFFFF 0x4000 0x0001 0x0000
    ∷ []

-- ---- byte order

-- the register whose byte b is b
abbrev counted : ℕ
counted = 0x0F0E0D0C0B0A09080706050403020100

-- ST $w1,0($1) in a format, and LD.B $w2,0($1)
abbrev st : Width → Instr
st df = instr.Memory (op (place.minor 36 0)) df ($w 1) 0 ($ 1)

abbrev ldb : Instr
ldb = instr.Memory (op (place.minor 32 0)) B ($w 2) 0 ($ 1)

-- a board with a work window at 1000 hex and no table
abbrev board : Order → Env
board o = env (record { program = 0; table = 0; work = 0x1000; order = o }) []

-- vector registers of which $w1 is the counted one and the others are 0; general registers with 1000 hex in $1
abbrev one_counted : List ℕ
one_counted = replicate 16 0 ++ bytes_of 16 counted ++ replicate 480 0

abbrev first : List ℕ
first = replicate 8 0 ++ bytes_of 8 0x1000 ++ replicate 240 0

-- Table 3.1, by the bytes of each word: Word[0] to Word[3]
abbrev little_words : List ℕ
little_words = 0 ∷ 1 ∷ 2 ∷ 3 ∷ 4 ∷ 5 ∷ 6 ∷ 7 ∷ 8 ∷ 9 ∷ 10 ∷ 11 ∷ 12 ∷ 13 ∷ 14 ∷ 15 ∷ []

abbrev big_words : List ℕ
big_words = 3 ∷ 2 ∷ 1 ∷ 0 ∷ 7 ∷ 6 ∷ 5 ∷ 4 ∷ 11 ∷ 10 ∷ 9 ∷ 8 ∷ 15 ∷ 14 ∷ 13 ∷ 12 ∷ []

-- the same for doublewords
abbrev big_doubles : List ℕ
big_doubles = 7 ∷ 6 ∷ 5 ∷ 4 ∷ 3 ∷ 2 ∷ 1 ∷ 0 ∷ 15 ∷ 14 ∷ 13 ∷ 12 ∷ 11 ∷ 10 ∷ 9 ∷ 8 ∷ []

-- $w1 is stored as these bytes: the plan has the register of their number, and puts its sixteen bytes
abbrev stored : ℕ → Order → Width → List ℕ → Sum
stored a o df s =
    sum (plan_of (board o) (at a one_counted first (replicate 16 0)) (st df)) (plan.Store 0x1000 (register (number s)))

-- Table 3.1 for either order; a store in D, and what a load in B makes of its bytes; a is any address
abbrev pub orders : ℕ → List Sum
orders a =
    stored a Little W little_words
    ∷ stored a Big W big_words
    ∷ stored a Big D big_doubles
    ∷ sum (plan_of (board Big) (at a one_counted first big_doubles) ldb)
    (plan.Vector ($w 2) (register 0x08090A0B0C0D0E0F0001020304050607))
    ∷ []

-- e is any set-up, v, g and w are any registers and work window, a is any address, ws and wt are any registers
abbrev pub sums : Env → List ℕ → List ℕ → List ℕ → ℕ → ℕ → ℕ → List Sum
sums e v g w a ws wt =
    sum (write_of addv) (Some 0x7842094E)
    ∷ sum (read_of 0x7842094E) (Ok addv)
    ∷ sum (write_of addvi) (Some 0x785109C6)
    ∷ sum (read_of 0x785109C6) (Ok addvi)
    ∷ sum (write_of bnz) (Some 0x4783FFFE)
    ∷ sum (read_of 0x4783FFFE) (Ok bnz)
    ∷ sum (plan_of e (at a no_zero g w) bnz) (plan.Branch (Taken ((a + (2 ^ 64 - 4)) % 2 ^ 64)))
    ∷ sum (byte (arith.Addition AddA) 0x80 0x80) (bytes 0x00)
    ∷ sum (byte (arith.Addition AddsA) 0x80 0x80) (bytes 0x7F)
    ∷ sum (byte (arith.Subtraction AsubS) 0x80 0x7F) (bytes 0xFF)
    ∷ sum (byte (arith.Subtraction SubsuuS) 0x00 0xFF) (bytes 0x80)
    ∷ sum (byte (arith.Addition AveS) 0xFF 0x00) (bytes 0xFF)
    ∷ sum (byte (arith.Addition AverS) 0xFF 0x00) (bytes 0x00)
    ∷ sum (byte (arith.Product DivS) 0xF9 0x02) (bytes 0xFD)
    ∷ sum (byte (arith.Product ModS) 0xF9 0x02) (bytes 0xFF)
    ∷ sum (byte (arith.Product DivS) 0x80 0xFF) (bytes 0x80)
    ∷ sum (half (arith.Dot DotpS) 0x8080 0x8080) (halves 0x8000)
    ∷ sum (half (arith.Across HsubS) 0x0100 0x0002) (halves 0xFFFF)
    ∷ sum (three_of three.Vshf 8 (bytes 0x40) ws wt) 0
    ∷ sum (three_of three.Vshf 8 (bytes 0x1F) ws wt) (bytes (ws / 2 ^ 120 % 2 ^ 8))
    ∷ sum (plan_of e (at a v second w) lsa) (plan.General ($ 1) 0xFFFFFFFF80000000)
    ∷ []
