-- Two worked machines, a loud one and a quiet one. They agree in byte 4 of $w1, $w2 and $w5 and in no other byte of
-- these, and have little else in common. Both finish ADDV.B, and then agree in byte 4 of its destination and in no
-- other: so `LanesApart` speaks of machines that there are. Both finish SHF.B, which puts its neighbour there, and no
-- longer agree in byte 4: a permute's elements do touch. So do the bytes of HADD_S.H, whose elements are halfwords.
use Rattle.std.specs.Prelude.{◌≡◌, Bool, true, List, [], ◌∷◌, ◌++◌, ℕ, zero, suc, ◌+◌, ◌/◌, ◌%◌, eqb, replicate, Ok}
use Rattle.isa.specs.declared.Instr.{Instr}
use Rattle.isa.specs.declared.Instr.TheVariants as instr
use Rattle.isa.specs.declared.Vreg.{Vreg}
use Rattle.isa.specs.declared.Width.TheVariants.{B, H}
use Rattle.ops.specs.Places as place
use Rattle.order.specs.declared.Order.TheVariants.{Little, Big}
use Rattle.reading.specs.Reading.{read_of}
use Rattle.state.specs.declared.control.Mark.TheVariants.{Clear, NotTaken}
use Rattle.state.specs.Machine.{Env, env, Machine, machine}
use Rattle.machine.specs.Step.{whole_step}
use Rattle.demands.specs.LaneTables.{ElementBits}
use Rattle.demands.specs.LanesApart.{element_in, Finishes, Apart}
use Rattle.demands.specs.Tables.{Not}

-- ---- the machines

abbrev pub $w : ℕ → Vreg
$w n = record { 0 = n }

-- a register with x in byte 4 and the echo in the fifteen others
abbrev pub beam : ℕ → ℕ → List ℕ
beam echo x = replicate 4 echo ++ x ∷ replicate 11 echo

-- $w1, $w2 and $w5; the other registers are 0
abbrev pub vectors : ℕ → List ℕ
vectors echo =
    replicate 16 0
    ++ beam echo 0x12
    ++ beam echo 0x34
    ++ replicate 32 0
    ++ beam echo 0x56
    ++ replicate 416 0

abbrev pub word : ℕ → List ℕ
word w = w % 256 ∷ w / 256 % 256 ∷ w / 65536 % 256 ∷ w / 16777216 % 256 ∷ []

-- the word w is its program; nothing else is there
abbrev pub loud_program : ℕ → List ℕ
loud_program w = word w

abbrev pub loud_env : Env
loud_env = env (record { program = 0; table = 0; work = 0; order = Little }) []

abbrev pub loud : Machine
loud = machine (vectors 0xFF) (replicate 256 0) [] (record { pc = 0; mark = Clear; csr = 0; on = true })

-- the word w stands second in its program, and in a slot; it has windows and a big-endian board
abbrev pub quiet_program : ℕ → List ℕ
quiet_program w = word 0 ++ word w

abbrev pub quiet_env : Env
quiet_env = env (record { program = 0x1000; table = 0x2000; work = 0x3000; order = Big }) (replicate 4 1)

abbrev pub quiet : Machine
quiet =
    machine (vectors 0x00) (replicate 8 0 ++ replicate 248 7) (replicate 16 2)
    (record { pc = 0x1004; mark = NotTaken; csr = 0x80; on = true })

-- ---- what they do

-- in which of k bytes of a register, from byte i on, two files agree; and the list in which only byte j stands so
abbrev pub agreeing : List ℕ → List ℕ → Vreg → ℕ → ℕ → List Bool
agreeing v v' r i zero = []
agreeing v v' r i (suc k) = eqb (element_in v r 8 i) (element_in v' r 8 i) ∷ agreeing v v' r (i + 1) k

abbrev pub alone : ℕ → ℕ → ℕ → List Bool
alone j i zero = []
alone j i (suc k) = eqb i j ∷ alone j (i + 1) k

-- of sixteen bytes they agree in byte j alone
abbrev pub AgreeIn : ℕ → List ℕ → List ℕ → Vreg → Type 0
AgreeIn j v v' r = agreeing v v' r 0 16 ≡ alone j 0 16

-- both finish the word w, and then agree in byte j of $w5 alone
pub record Worked (w : ℕ) (instruction : Instr) (j : ℕ) : Type 0 where
  pub reads : read_of w ≡ Ok instruction
  pub loudly : Finishes w (loud_program w) loud_env loud
  pub quietly : Finishes w (quiet_program w) quiet_env quiet
  pub ws : AgreeIn 4 loud.vec quiet.vec ($w 1)
  pub wt : AgreeIn 4 loud.vec quiet.vec ($w 2)
  pub old : AgreeIn 4 loud.vec quiet.vec ($w 5)
  pub wd : AgreeIn j (whole_step (loud_program w) loud_env loud).after.vec
      (whole_step (quiet_program w) quiet_env quiet).after.vec ($w 5)

-- ADDV.B $w5,$w1,$w2
abbrev pub addv : Instr
addv = instr.Three (record { 0 = place.minor 14 0 }) B ($w 5) ($w 1) ($w 2)

abbrev pub EchoesApart : Type 0
EchoesApart = ElementBits addv 8 × Worked 0x7802094E addv 4

-- SHF.B $w5,$w1,177: bytes 1, 0, 3 and 2 of each four
abbrev pub shf : Instr
shf = instr.Shf B ($w 5) ($w 1) 177

-- HADD_S.H $w5,$w1,$w2
abbrev pub hadd : Instr
hadd = instr.Three (record { 0 = place.minor 21 4 }) H ($w 5) ($w 1) ($w 2)

abbrev pub EchoesTouch : Type 0
EchoesTouch =
    Worked 0x78B10942 shf 5 × Not (Apart 0x78B10942 shf 8) × Worked 0x7A220955 hadd 5 × Not (Apart 0x7A220955 hadd 8)
