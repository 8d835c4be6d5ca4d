-- A device of the code and its proofs, and no part of what an operation means: an element as an unsigned number in the order of its
-- readings. Signed order, averages, distances, clamps and shifts are then the unsigned ones on views.
use Rattle.std.specs.Prelude.{cond, ℕ, ◌+◌, ◌-◌, ltb}
use Rattle.element.specs.declared.Reading.{Reading}
use Rattle.element.specs.declared.Reading.TheVariants.{Unsigned, Signed}
use Rattle.element.specs.Value.{top}

-- x with its top bit the other way round: what x stands for as a signed number, plus 2^(n - 1)
unfoldable pub flip : ℕ → ℕ → ℕ
flip n x = cond (ltb x (top n)) (x + top n) (x - top n)

-- x stands for view g n x - bias g n
abbrev pub view : Reading → ℕ → ℕ → ℕ
view Unsigned n x = x
view Signed n x = flip n x

abbrev pub bias : Reading → ℕ → ℕ
bias Unsigned n = 0
bias Signed n = top n
