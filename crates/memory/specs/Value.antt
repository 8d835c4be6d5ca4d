-- A register of 128 bits by value is two words; it stands for one number below 2^128.
use Rattle.std.specs.Prelude.{◌≡◌, ℕ, ◌+◌, ◌*◌, ◌/◌, ◌%◌, ◌^◌}
use Rattle.memory.specs.declared.Register.{Register}

abbrev pub value : Register → ℕ
value r = r.low + r.high * 2 ^ 64

-- the register whose value is x modulo 2^128
unfoldable pub register : ℕ → Register
register x = record { low = x % 2 ^ 64; high = x / 2 ^ 64 % 2 ^ 64 }

-- r is the register of x, and x is below 2^128
pub record Holds (r : Register) (x : ℕ) : Type 0 where
  pub is : r ≡ register x
  pub exact : value r ≡ x
