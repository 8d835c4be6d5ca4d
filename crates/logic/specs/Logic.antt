-- The VEC instructions of Table 4.2 on one bit, 0 or 1: d is the old wd's, s is ws's and t is wt's.
use Rattle.std.specs.Prelude.{ℕ, ◌+◌, ◌-◌, ◌%◌, min, max}
use Rattle.isa.specs.declared.Logic.{Logic}
use Rattle.isa.specs.declared.Logic.TheVariants.{And, Or, Nor, Xor, Bmnz, Bmz, Bsel}

abbrev pub not_bit : ℕ → ℕ
not_bit x = 1 - x

abbrev pub and_bit : ℕ → ℕ → ℕ
and_bit x y = min x y

abbrev pub or_bit : ℕ → ℕ → ℕ
or_bit x y = max x y

abbrev pub logic_bit : Logic → ℕ → ℕ → ℕ → ℕ
logic_bit And d s t = and_bit s t
logic_bit Or d s t = or_bit s t
logic_bit Nor d s t = not_bit (or_bit s t)
logic_bit Xor d s t = (s + t) % 2
logic_bit Bmnz d s t = or_bit (and_bit s t) (and_bit d (not_bit t))
logic_bit Bmz d s t = or_bit (and_bit s (not_bit t)) (and_bit d t)
logic_bit Bsel d s t = or_bit (and_bit s (not_bit d)) (and_bit t d)
