-- What a scan of a text finds: the number of each numeral, and a mark for each minus. Assumes nothing.
use mathlib.Core.Path.{◌≡◌, refl, ap, ◌∙◌}
use mathlib.Core.Bool.{Bool, true, false}
use mathlib.Core.List.{List, [], ◌∷◌, ◌++◌, append_assoc}
use Prim.Native.Nat.{ℕ, zero, suc, ◌+◌, ◌-◌, ◌*◌, ◌/◌, ◌%◌, ◌<◌}
use native.Mathlib.Decide.{dec_lt}
use native.Mathlib.Nat.{mod-lt}
use native.Mathlib.Omega.{arith}
use borrow.Author.Tests.{le-leb, lt-ltb, le-ltb}
use lib.Dec.{eqb, leb, ltb}
use Rattle.fields.specs.Fields.{pick, both}
use Rattle.text.specs.Numerals.{digit, numeral, decimal}

abbrev pub is_digit : ℕ → Bool
is_digit c = both (leb 48 c) (ltb c 58)

-- no operand has a number as large as the mark
abbrev pub mark : ℕ
mark = 100000

abbrev emit : Bool → ℕ → List ℕ → List ℕ
emit true n l = n ∷ l
emit false n l = l

-- what follows a letter that is no digit
abbrev beyond : ℕ → List ℕ → List ℕ
beyond c l = pick (eqb c 45) (mark ∷ l) l

-- the scan of a text behind a numeral that stands at n, or behind none
unfoldable pub run : ℕ → Bool → List ℕ → List ℕ
run n o [] = emit o n []
run n o (c ∷ cs) = pick (is_digit c) (run (n * 10 + (c - 48)) true cs) (emit o n (beyond c (run 0 false cs)))

pub scan : List ℕ → List ℕ
scan t = run 0 false t

digit-code : (d : ℕ) → d < 10 → digit d ≡ 48 + d
digit-code zero h = refl
digit-code (suc zero) h = refl
digit-code (suc (suc zero)) h = refl
digit-code (suc (suc (suc zero))) h = refl
digit-code (suc (suc (suc (suc zero)))) h = refl
digit-code (suc (suc (suc (suc (suc zero))))) h = refl
digit-code (suc (suc (suc (suc (suc (suc zero)))))) h = refl
digit-code (suc (suc (suc (suc (suc (suc (suc zero))))))) h = refl
digit-code (suc (suc (suc (suc (suc (suc (suc (suc zero)))))))) h = refl
digit-code (suc (suc (suc (suc (suc (suc (suc (suc (suc zero))))))))) h = refl
digit-code (suc (suc (suc (suc (suc (suc (suc (suc (suc (suc d)))))))))) h = absurd (omega arith)

-- one digit more
run-digit : (n d : ℕ) (o : Bool) (rest : List ℕ) → d < 10 → run n o (digit d ∷ rest) ≡ run (n * 10 + d) true rest
unfolding run
run-digit n d o rest h =
    let back : 48 + d - 48 ≡ d = omega arith in
    rw (digit-code d h, le-leb 48 (48 + d) (omega arith), lt-ltb (48 + d) 58 (omega arith), back)

abbrev ten : ℕ → ℕ
ten zero = 10
ten (suc k) = 10 * ten k

run-numeral : (k n : ℕ) (o : Bool) (rest : List ℕ) → n < ten k → run 0 o (numeral 10 true (suc k) n ++ rest) ≡ run n true rest
run-numeral zero n o rest h =
    let e : 0 * 10 + n % 10 ≡ n = omega arith in
    rw (lt-ltb n 10 h) (run-digit 0 (n % 10) o rest (mod-lt n (omega arith)) ∙ ap (λ x. run x true rest) e)
run-numeral (suc k) n o rest h = go (dec_lt n 10) (run-numeral k (n / 10) o (digit (n % 10) ∷ rest) (omega arith))
  where
    go : Dec (n < 10) → run 0 o (numeral 10 true (suc k) (n / 10) ++ (digit (n % 10) ∷ rest)) ≡ run (n / 10) true (digit (n % 10) ∷ rest)
        → run 0 o (numeral 10 true (suc (suc k)) n ++ rest) ≡ run n true rest
    go (yes l) r =
        let e : 0 * 10 + n % 10 ≡ n = omega arith in
        rw (lt-ltb n 10 l) (run-digit 0 (n % 10) o rest (mod-lt n (omega arith)) ∙ ap (λ x. run x true rest) e)
    go (no l) r =
        let e : n / 10 * 10 + n % 10 ≡ n = omega arith in
        rw (le-ltb n 10 (omega arith))
        (ap (run 0 o) (append_assoc (numeral 10 true (suc k) (n / 10)) (digit (n % 10) ∷ []) rest)
        ∙ r ∙ run-digit (n / 10) (n % 10) true rest (mod-lt n (omega arith)) ∙ ap (λ x. run x true rest) e)

-- behind a text a numeral does not go on
abbrev pub Break : List ℕ → Type 0
Break [] = Unit {0}
Break (c ∷ cs) = is_digit c ≡ false

close : (n : ℕ) (rest : List ℕ) → Break rest → run n true rest ≡ n ∷ run 0 false rest
unfolding run
close n [] h = refl
close n (c ∷ cs) h = rw h

pub number-run : (n : ℕ) (rest : List ℕ) → n < 100000 → Break rest → run 0 false (decimal n ++ rest) ≡ n ∷ run 0 false rest
unfolding decimal
number-run n rest h b = run-numeral 4 n false rest h ∙ close n rest b
