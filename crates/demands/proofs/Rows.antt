-- Laws of any table: of the first row that applies, and of what stands behind it. Assumes nothing.
use mathlib.Core.Path.{◌≡◌, refl}
use mathlib.Core.List.{List, [], ◌∷◌, ◌++◌}
use Prim.Native.Nat.{ℕ}
use Rattle.demands.specs.Tables.{Row, row_with, First, none, given, passed, OneFirst}
use Rattle.demands.specs.Tables.{Says, nothing, here, later, Not}

pub one-first : OneFirst
one-first rows n k none none = refl
one-first rows n k (given a) (given b) = refl
one-first rows n k (given a) (passed q g) = absurd (q a)
one-first rows n k (passed p f) (given b) = absurd (p b)
one-first rows n k (passed p f) (passed q g) = one-first _ n k f g

-- a row that applies together with another
pub swapped : {k n : ℕ} {P Q : Type 0} {f g : ℕ → ℕ → Type 0} {rows rows' : List Row} → (P → Q) → (Q → P)
    → (First rows n → First rows' n)
    → First (row_with k P f ∷ rows) n → First (row_with k Q g ∷ rows') n
swapped f g h (given p) = given (f p)
swapped f g h (passed q r) = passed (λ x. q (g x)) (h r)

-- the row that gives n, and those before it
pub skipped : {n : ℕ} {r : Row} {rows : List Row} → Not (r.number ≡ n) → First (r ∷ rows) n → First rows n
skipped q (given p) = absurd (q refl)
skipped q (passed r f) = f

pub applies : {n : ℕ} {r : Row} {rows : List Row} → (First rows n → ⊥) → First (r ∷ rows) n → r.applies
applies q (given p) = p
applies q (passed r f) = absurd (q f)

pub passes : {n : ℕ} {r : Row} {rows : List Row} → Not (r.number ≡ n) → First (r ∷ rows) n → Not r.applies
passes q (given p) = absurd (q refl)
passes q (passed r f) = r

pub empty : {n : ℕ} → First [] n → n ≡ 0
empty none = refl

-- ---- what stands behind

-- f holds of each row
infixr 5 ◌&◌
pub data Each (f : Row → Type 0) : List Row → Type 1 where
  all : Each f []
  ◌&◌ : {r : Row} {rs : List Row} → f r → Each f rs → Each f (r ∷ rs)

pub each_append : {f : Row → Type 0} {rows rows' : List Row} → Each f rows → Each f rows' → Each f (rows ++ rows')
each_append all b = b
each_append (x & a) b = x & each_append a b

pub each_map : {f g : Row → Type 0} {rows : List Row} → ((r : Row) → f r → g r) → Each f rows → Each g rows
each_map h all = all
each_map h (x & a) = h _ x & each_map h a

-- by recursion on the rows, n, w and x given
says_on : (n w x : ℕ) → (n ≡ 0 → (w ≡ 0) × (x ≡ 0)) → (rows : List Row)
    → Each (λ r. r.number ≡ n → r.applies → r.behind w x) rows → First rows n → Says rows n w x
says_on n w x z rows all none = let both = z refl in rw (both.0, both.1) nothing
says_on n w x z rows (b & each) (given p) = here p (b refl p)
says_on n w x z rows (b & each) (passed q f) = later q (says_on n w x z _ each f)

-- the row that gives n applies, w and x stand behind it, and no earlier one applies
pub says : (rows : List Row) (n w x : ℕ) → (n ≡ 0 → (w ≡ 0) × (x ≡ 0))
    → Each (λ r. r.number ≡ n → r.applies → r.behind w x) rows → First rows n → Says rows n w x
says rows n w x z each f = says_on n w x z rows each f

pub said-first : {rows : List Row} {n w x : ℕ} → Says rows n w x → First rows n
said-first nothing = none
said-first (here p b) = given p
said-first (later q s) = passed q (said-first s)

-- one word and one fact stand behind a row
abbrev pub One : Row → Type 0
One r = (w v x y : ℕ) → r.behind w x → r.behind v y → (w ≡ v) × (x ≡ y)

-- by recursion on the rows, the numbers given
one_said_on : (n k w v x y : ℕ) (rows : List Row) → Each (λ r. r.number ≡ n → One r) rows → Says rows n w x
    → Says rows k v y
    → (w ≡ v) × (x ≡ y)
one_said_on n k w v x y rows all nothing nothing = (refl, refl)
one_said_on n k w v x y rows (one & each) (here p b) (here q c) = one refl w v x y b c
one_said_on n k w v x y rows (one & each) (here p b) (later q t) = absurd (q p)
one_said_on n k w v x y rows (one & each) (later q s) (here p c) = absurd (q p)
one_said_on n k w v x y rows (one & each) (later q s) (later r t) = one_said_on n k w v x y _ each s t

pub one-said : (rows : List Row) (n k w v x y : ℕ) → Each (λ r. r.number ≡ n → One r) rows → Says rows n w x
    → Says rows k v y
    → (w ≡ v) × (x ≡ y)
one-said rows n k w v x y each s t = one_said_on n k w v x y rows each s t
