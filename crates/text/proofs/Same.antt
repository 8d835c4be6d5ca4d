-- Texts that are equal have equal parts, and numerals that are equal have equal numbers. Assumes nothing.
use mathlib.Core.Path.{◌≡◌, refl, sym, ap, ap₂, ◌∙◌}
use mathlib.Core.Bool.{Bool, true, false}
use mathlib.Core.Logic.{⊎_elim}
use mathlib.Core.List.{List, ◌++◌}
use Prim.Native.Nat.{ℕ, zero, suc, ◌+◌, ◌-◌, ◌*◌, ◌/◌, ◌%◌, ◌≤◌, ◌<◌}
use native.Mathlib.Nat.{mod-lt, div-add-mod', eq-or-lt_of_le}
use native.Mathlib.Omega.{arith}
use borrow.Author.Tests.{eqb-true}
use lib.Dec.{eqb, ltb}
use lib.ListN.{length, get_or, take, drop}
use lib.Seq.{take_at, drop_at}
use Rattle.fields.specs.Fields.{pick, both}
use Rattle.fields.proofs.Fields.{both_left, both_right}
use Rattle.text.specs.Numerals.{digit, numeral, hex}
use Rattle.text.proofs.Numerals.{all_digits}

-- parts of equal length
pub parts : (n : ℕ) {s t u v : List ℕ} → length s ≡ n → length t ≡ n → s ++ u ≡ t ++ v → (s ≡ t) × (u ≡ v)
parts n {s} {t} {u} {v} e f h = (
  sym (take_at s u n e) ∙ ap (take n) h ∙ take_at t v n f,
  sym (drop_at s u n e) ∙ ap (drop n) h ∙ drop_at t v n f,
)

-- a test of every number below n, by computing
abbrev below : (ℕ → Bool) → ℕ → Bool
below f zero = true
below f (suc n) = both (f n) (below f n)

at-below : (f : ℕ → Bool) (n : ℕ) → below f n ≡ true → (k : ℕ) → k < n → f k ≡ true
at-below f zero t k h = absurd (omega arith)
at-below f (suc n) t k h =
    ⊎_elim (λ (e : k ≡ n). rw e (both_left (f n) (below f n) t)) (λ (l : k < n). at-below f n (both_right (f n) (below f n) t) k l)
    (eq-or-lt_of_le (omega arith))

-- the digit of a letter
abbrev value : ℕ → ℕ
value c = pick (ltb c 58) (c - 48) (c - 55)

digit-same : (x y : ℕ) → x < 16 → y < 16 → digit x ≡ digit y → x ≡ y
digit-same x y h k e = sym (back x h) ∙ ap value e ∙ back y k
  where
    back : (x : ℕ) → x < 16 → value (digit x) ≡ x
    back x h = eqb-true (value (digit x)) x (at-below (λ k. eqb (value (digit k)) k) 16 refl x h)

-- what the last k digits leave of a number
abbrev rest : ℕ → ℕ → ℕ → ℕ
rest base zero n = n
rest base (suc k) n = rest base k (n / base)

pub digits_same : (base : ℕ) → 0 < base → base ≤ 16 → (k n m : ℕ) → rest base k n ≡ rest base k m
    → numeral base false k n ≡ numeral base false k m → n ≡ m
digits_same base p l zero n m r e = r
digits_same base p l (suc k) n m r e =
    let cut = parts k (all_digits base k (n / base)) (all_digits base k (m / base)) e in
    let quotient : n / base ≡ m / base = digits_same base p l k (n / base) (m / base) r cut.0 in
    let hn : n % base < base = mod-lt n p in
    let hm : m % base < base = mod-lt m p in
    let letter : digit (n % base) ≡ digit (m % base) = ap (λ (s : List ℕ). get_or s 0 0) cut.1 in
    let last : n % base ≡ m % base = digit-same (n % base) (m % base) (omega arith) (omega arith) letter in
    sym (div-add-mod' n base) ∙ ap₂ {C = ℕ} (λ q d. q * base + d) quotient last ∙ div-add-mod' m base

pub hex-same : (n m : ℕ) → n < 4294967296 → m < 4294967296 → hex n ≡ hex m → n ≡ m
unfolding hex
hex-same n m h k e = digits_same 16 (omega arith) (omega arith) 8 n m (omega arith) e
