-- A shift that can be put together of parts: nothing for 0, and for two amounts in turn their sum.
use Rattle.std.specs.Prelude.{◌≡◌, ℕ, ◌+◌, ◌^◌, ◌<◌}
use Rattle.isa.specs.declared.Width.{Width}
use Rattle.isa.specs.Widths.{bits}

pub record Shift (w : Width) (act : ℕ → ℕ → ℕ) : Type 0 where
  pub none : (a : ℕ) → a < 2 ^ bits w → act a 0 ≡ a
  pub more : (a j k : ℕ) → act (act a j) k ≡ act a (j + k)
