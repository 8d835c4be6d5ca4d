-- The four data formats in numbers, Tables 3.10 and 3.11 and section 3.3.
use Rattle.std.specs.Prelude.{[], ◌∷◌, ℕ, get_or}
use Rattle.isa.specs.declared.Width.{Width}
use Rattle.isa.specs.declared.Width.TheVariants.{B, H, W, D}

-- the bits of an element
abbrev pub bits : Width → ℕ
bits B = 8
bits H = 16
bits W = 32
bits D = 64

-- the bytes of an element
abbrev pub bytes : Width → ℕ
bytes B = 1
bytes H = 2
bytes W = 4
bytes D = 8

-- the elements of a register of 128 bits
abbrev pub elements : Width → ℕ
elements B = 16
elements H = 8
elements W = 4
elements D = 2

-- Table 3.10: a format's two bits, and the format of two bits
abbrev pub width_code : Width → ℕ
width_code B = 0
width_code H = 1
width_code W = 2
width_code D = 3

abbrev pub width_at : ℕ → Width
width_at k = get_or (B ∷ H ∷ W ∷ D ∷ []) k D

-- Table 3.11: H and W by one bit. B and D have no code there: 2, which one bit does not hold
abbrev pub hw_code : Width → ℕ
hw_code B = 2
hw_code H = 0
hw_code W = 1
hw_code D = 2

abbrev pub hw_at : ℕ → Width
hw_at k = get_or (H ∷ W ∷ []) k W
