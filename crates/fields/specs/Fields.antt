-- Bit fields of a word, as whole numbers; and the two functions of truth values that the definitions go by.
use Rattle.std.specs.Prelude.{Bool, true, false, List, [], ◌∷◌, ℕ, ◌+◌, ◌-◌, ◌*◌, ◌/◌, ◌%◌, ◌^◌, ltb}

abbrev pub pick : {A : Type 0} → Bool → A → A → A
pick true a b = a
pick false a b = b

abbrev pub both : Bool → Bool → Bool
both true b = b
both false b = false

-- bits hi..lo
abbrev pub bits : ℕ → ℕ → ℕ → ℕ
bits w hi lo = w / 2 ^ lo % 2 ^ (hi - lo + 1)

-- fields are given by their widths and their values, the highest first
abbrev pub total : List ℕ → ℕ
total [] = 0
total (n ∷ ns) = n + total ns

-- the word that has these values in its fields
abbrev pub word_of : List ℕ → List ℕ → ℕ
word_of [] vs = 0
word_of (n ∷ ns) [] = 0
word_of (n ∷ ns) (v ∷ vs) = v * 2 ^ total ns + word_of ns vs

-- there are as many values as fields, and each fits its field
abbrev pub fits : List ℕ → List ℕ → Bool
fits [] [] = true
fits [] (v ∷ vs) = false
fits (n ∷ ns) [] = false
fits (n ∷ ns) (v ∷ vs) = both (ltb v (2 ^ n)) (fits ns vs)
