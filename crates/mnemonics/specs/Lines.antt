-- The rows of the table of operations in which a name stands, and where among them a row is.
use Rattle.std.specs.Prelude.{cond, List, [], ◌∷◌, ℕ, suc, eqb}

abbrev pub lines : List ℕ
lines =
    0 ∷ 1 ∷ 2 ∷ 6 ∷ 7 ∷ 9 ∷ 10 ∷ 13 ∷ 14 ∷ 15 ∷ 16 ∷ 17 ∷ 18 ∷ 19 ∷ 20 ∷ 21
    ∷ 32 ∷ 36 ∷ 40 ∷ 42 ∷ 44 ∷ 52 ∷ 53 ∷ 54 ∷ 55 ∷ 56 ∷ 58 ∷ []

-- how many stand before a number
abbrev pub before : ℕ → List ℕ → ℕ
before m [] = 0
before m (n ∷ ns) = cond (eqb n m) 0 (suc (before m ns))

unfoldable pub line_of : ℕ → ℕ
line_of m = before m lines
