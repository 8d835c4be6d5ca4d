-- The place of a mnemonic. BZ and BNZ stand twice in the table, with a format and as BZ.V and BNZ.V, so a place is told
-- by the mnemonic and by whether .V stands behind it.
use Rattle.std.specs.Prelude.{Bool, true, false, cond, List, [], ◌∷◌, ℕ, eqb}
use Rattle.fields.specs.Fields.{both}
use Rattle.text.specs.Text.{bytes}
use Rattle.ops.specs.Formats.{Formats, bhwd, hwd, bhw, b, v, bare, hw}
use Rattle.ops.specs.Places as place
use Rattle.ops.specs.Table.{Row, table}

-- the same numbers in the same order
abbrev pub same : List ℕ → List ℕ → Bool
same [] [] = true
same [] (y ∷ ys) = false
same (x ∷ xs) [] = false
same (x ∷ xs) (y ∷ ys) = both (eqb x y) (same xs ys)

-- .V stands behind the mnemonic, or it does not
abbrev pub whole : Formats → Bool
whole bhwd = false
whole hwd = false
whole bhw = false
whole b = false
whole v = true
whole bare = false
whole hw = false

abbrev pub alike : Bool → Bool → Bool
alike a true = a
alike a false = cond a false true

abbrev pub seek : List ℕ → Bool → List Row → ℕ
seek x behind [] = place.past
seek x behind (r ∷ rs) =
    cond (both (same (bytes r.name) x) (alike (whole r.formats) behind)) r.place (seek x behind rs)

-- a name that no operation has is past the table, and so is the empty one
unfoldable pub place_of_name : List ℕ → Bool → ℕ
place_of_name [] behind = place.past
place_of_name (x ∷ xs) behind = seek (x ∷ xs) behind table
