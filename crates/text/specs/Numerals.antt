-- A number in digits.
use Rattle.std.specs.Prelude.{Bool, true, false, List, [], ◌∷◌, ◌++◌, ℕ, zero, suc, ◌/◌, ◌%◌, ltb, get_or}
use Rattle.fields.specs.Fields.{pick, both}
use Rattle.text.specs.Text.{bytes}

-- the letter of a digit
abbrev pub digit : ℕ → ℕ
digit d = get_or (bytes "0123456789ABCDEF") d 0

-- the last digits of a number, as many as are asked for; where it is to be short, no more than it has
abbrev pub numeral : ℕ → Bool → ℕ → ℕ → List ℕ
numeral base short zero n = []
numeral base short (suc k) n = pick (both short (ltb n base)) [] (numeral base short k (n / base)) ++ digit (n % base) ∷ []

-- a number below 100,000
unfoldable pub decimal : ℕ → List ℕ
decimal n = numeral 10 true 5 n

-- eight digits
unfoldable pub hex : ℕ → List ℕ
hex n = numeral 16 false 8 n
