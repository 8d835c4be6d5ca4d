-- Request 8/12, lanes that cannot touch. Take two machines, with whatever programs, windows, general registers and
-- counters, that both finish the same word, one of an instruction of `LaneTables`. If they agree in element i of the
-- vector registers that the instruction names, as source and as old destination, they agree in element i of the
-- destination after the step, whatever the other elements and the other registers were.
use Rattle.std.specs.Prelude.{◌≡◌, List, [], ◌∷◌, ℕ, zero, suc, ◌+◌, ◌*◌, ◌/◌, ◌%◌, ◌^◌, ◌<◌, get_or, Ok}
use Rattle.isa.specs.declared.Instr.{Instr}
use Rattle.isa.specs.declared.Vreg.{Vreg}
use Rattle.memory.specs.Bytes.{AreBytes}
use Rattle.reading.specs.Reading.{read_of}
use Rattle.state.specs.Machine.{Env, Machine}
use Rattle.machine.specs.Step.{whole_step}
use Rattle.demands.specs.AtCounter.{IsWord}
use Rattle.demands.specs.Destination.{in_vector, operands_of}
use Rattle.demands.specs.LaneTables.{ElementBits}

-- ---- elements, by document 01's sentences and nothing of the machine's own

-- bit j of register r: byte b of the register stands at 16r + b, byte 0 the least significant
abbrev pub register_bit : List ℕ → Vreg → ℕ → ℕ
register_bit file r j = get_or file (16 * r.0 + j / 8) 0 / 2 ^ (j % 8) % 2

-- the number of n bits from bit j on
unfoldable pub bits_from : List ℕ → Vreg → ℕ → ℕ → ℕ
bits_from file r j zero = 0
bits_from file r j (suc n) = register_bit file r j + 2 * bits_from file r (j + 1) n

-- element i of n bits: bits n * i to n * i + n - 1
abbrev pub element_in : List ℕ → Vreg → ℕ → ℕ → ℕ
element_in file r n i = bits_from file r (n * i) n

-- two files agree in element i of each of these registers
abbrev pub Agree : ℕ → ℕ → List ℕ → List ℕ → List Vreg → Type 0
Agree n i v v' [] = Unit {0}
Agree n i v v' (r ∷ rs) = (element_in v r n i ≡ element_in v' r n i) × Agree n i v v' rs

-- ---- the statement

-- a machine whose set-up is accepted, and that finishes the word w
pub record Finishes (w : ℕ) (p : List ℕ) (e : Env) (m : Machine) : Type 0 where
  pub word : IsWord p e m w
  pub bytes : AreBytes m.vec
  pub finished : (whole_step p e m).answer ≡ Ok (Ok tt)

-- elements of n bits cannot touch in the word w, which reads as this instruction
pub record Apart (w : ℕ) (instruction : Instr) (n : ℕ) : Type 0 where
  pub wd : Vreg
  pub destination : (operands_of instruction).destination ≡ in_vector wd
  pub same : (p p' : List ℕ) (e e' : Env) (m m' : Machine) → Finishes w p e m → Finishes w p' e' m'
      → (i : ℕ) → i < 128 / n
      → Agree n i m.vec m'.vec (wd ∷ (operands_of instruction).sources)
      → Agree n i (whole_step p e m).after.vec (whole_step p' e' m').after.vec (wd ∷ [])

abbrev pub LanesApart : Type 0
LanesApart =
    (w : ℕ) (instruction : Instr) → read_of w ≡ Ok instruction
    → (n : ℕ) → ElementBits instruction n → Apart w instruction n
