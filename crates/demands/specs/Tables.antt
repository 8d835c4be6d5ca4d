-- Document 01's tables, and the words in which their rows are put. Nothing here is the machine's own: each is said from
-- that paper a second time, so that a definition of the machine that differs from it is found out. `Limits` is the
-- table of set-up, `Reasons` that of the stops.
use Rattle.std.specs.Prelude.{◌≡◌, List, [], ◌∷◌, ℕ, zero, suc, ◌+◌, ◌*◌, ◌/◌, ◌%◌, ◌^◌, ◌≤◌, ◌<◌, get_or}

-- a row: its number, when it is given, and which word and which fact stand behind it then
pub record Row : Type 1 where
  pub number : ℕ
  pub applies : Type 0
  pub behind : ℕ → ℕ → Type 0

abbrev pub row_with : ℕ → Type 0 → (ℕ → ℕ → Type 0) → Row
row_with n a b = record { number = n; applies = a; behind = b }

-- nothing stands behind it: word and fact are 0
abbrev pub row : ℕ → Type 0 → Row
row n a = row_with n a (λ w x. (w ≡ 0) × (x ≡ 0))

-- what is not so
abbrev pub Not : Type 0 → Type 0
Not a = a → ⊥

-- the number of the first row that applies, and 0 where none does
pub data First : List Row → ℕ → Type 1 where
  none : First [] 0
  given : {r : Row} {rs : List Row} → r.applies → First (r ∷ rs) r.number
  passed : {r : Row} {rs : List Row} {n : ℕ} → Not r.applies → First rs n → First (r ∷ rs) n

-- there is one
abbrev pub OneFirst : Type 1
OneFirst = (rows : List Row) (n k : ℕ) → First rows n → First rows k → n ≡ k

-- the same with the word and the fact behind it: 0, 0 and 0 where none applies
pub data Says : List Row → ℕ → ℕ → ℕ → Type 1 where
  nothing : Says [] 0 0 0
  here : {r : Row} {rs : List Row} {w x : ℕ} → r.applies → r.behind w x → Says (r ∷ rs) r.number w x
  later : {r : Row} {rs : List Row} {n w x : ℕ} → Not r.applies → Says rs n w x → Says (r ∷ rs) n w x

-- some number of which f holds
pub record Some (f : ℕ → Type 0) : Type 0 where
  pub number : ℕ
  pub holds : f number

-- the number of n bytes from a place on, the least significant first
unfoldable pub little : List ℕ → ℕ → ℕ → ℕ
little s at zero = 0
little s at (suc n) = get_or s at 0 + 256 * little s (at + 1) n

-- bit k is set
abbrev pub Bit : ℕ → ℕ → Type 0
Bit k v = v / 2 ^ k % 2 ≡ 1

-- the bits that MSACSR has
abbrev pub csr_bits : ℕ
csr_bits = 0x0107FFFF

-- an address that a window of len bytes from base holds
abbrev pub Inside : ℕ → ℕ → ℕ → Type 0
Inside base len x = (base ≤ x) × (x < base + len)
