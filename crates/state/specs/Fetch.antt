-- The word at the program counter: word i of the program stands at base + 4i, its four bytes little-endian. Where there
-- is none: 11.
use Rattle.std.specs.Prelude.{◌≡◌, ℕ, ◌+◌, ◌-◌, ◌%◌, cond, ◌&&◌, List, length, ◌==◌, nat_le, Some, None, Option}
use Rattle.isa.specs.Numbers.{Said, values}
use Rattle.isa.specs.Numbers as said
use Rattle.memory.specs.Bytes.{part, number}

unfoldable pub fetched : List ℕ → ℕ → ℕ → Option ℕ
fetched program base pc =
    cond (nat_le base pc && (pc - base) % 4 == 0 && nat_le (pc - base + 4) (length program))
    (Some (number (part program (pc - base) 4)))
    None

abbrev pub fetched_said : Option ℕ → Said ℕ
fetched_said (Some w) = values w
fetched_said None = said.number 11

-- what fetching promises: the answer says what the definition says
pub record Fetches (program : List ℕ) (base pc : ℕ) (r : Option ℕ) : Type 0 where
  pub said : fetched_said r ≡ fetched_said (fetched program base pc)
