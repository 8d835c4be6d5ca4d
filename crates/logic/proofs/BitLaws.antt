-- The bits of what the operations on words make, and that no bit touches another.
use mathlib.Core.Path.{◌≡◌, refl, sym, ap, ◌∙◌}
use Prim.Native.Nat.{ℕ, zero, suc, ◌+◌, ◌-◌, ◌*◌, ◌/◌, ◌%◌, ◌^◌, ◌<◌, min, max}
use native.Mathlib.Nat.{mod-eq_of_lt, pow-suc}
use native.Mathlib.Omega.{arith}
use lib.Bits.{bit_and, bit_or, bit_xor, differ, and_shr, or_shr, xor_shr, and_step, or_step, xor_step, and_lt, or_lt, xor_lt}
use lib.Pow.{pow_pos, ones_lt, ones_split}
use lib.Pow as pow
use Rattle.isa.specs.declared.Logic.{Logic}
use Rattle.isa.specs.declared.Logic.TheVariants.{And, Or, Nor, Xor, Bmnz, Bmz, Bsel}
use Rattle.memory.specs.declared.Register.{Register}
use Rattle.memory.specs.Value.{value, register}
use Rattle.memory.proofs.Values.{Words, is-register}
use Rattle.vectors.specs.Register.{build, element, together}
use Rattle.vectors.proofs.ElementLaws.{element-below, build-element, build-same}
use Rattle.vectors.proofs.Sizes.{shares-bit}
use Rattle.vectors.proofs.Wholes.{whole_below, made-below, untouched, together-words}
use Rattle.logic.specs.Logic.{logic_bit, and_bit, or_bit, not_bit}

-- bit i of an operation that goes digit by digit
module _ (op f : ℕ → ℕ → ℕ) (shr : (a b k : ℕ) → op a b / 2 ^ k ≡ op (a / 2 ^ k) (b / 2 ^ k))
    (step : (a b : ℕ) → op a b ≡ op (a / 2) (b / 2) * 2 + f (a % 2) (b % 2))
    (below : (x y : ℕ) → x < 2 → y < 2 → f x y < 2) where
  op-bit : (a b i : ℕ) → element 1 (op a b) i ≡ f (element 1 a i) (element 1 b i)
  unfolding element
  op-bit a b i =
      let x = a / 2 ^ (1 * i) in
      let y = b / 2 ^ (1 * i) in
      let small : f (x % 2) (y % 2) < 2 = below (x % 2) (y % 2) (omega arith) (omega arith) in
      ap (λ z. z % 2) (shr a b (1 * i) ∙ step x y) ∙ omega arith

and-bit : (a b i : ℕ) → element 1 (bit_and a b) i ≡ and_bit (element 1 a i) (element 1 b i)
and-bit = op-bit bit_and min and_shr and_step (λ x y p q. omega arith)

or-bit : (a b i : ℕ) → element 1 (bit_or a b) i ≡ or_bit (element 1 a i) (element 1 b i)
or-bit = op-bit bit_or max or_shr or_step (λ x y p q. omega arith)

differ-bit : (x y : ℕ) → x < 2 → y < 2 → differ x y ≡ (x + y) % 2
differ-bit zero zero p q = refl
differ-bit zero (suc zero) p q = refl
differ-bit zero (suc (suc y)) p q = absurd (omega arith)
differ-bit (suc zero) zero p q = refl
differ-bit (suc zero) (suc zero) p q = refl
differ-bit (suc zero) (suc (suc y)) p q = absurd (omega arith)
differ-bit (suc (suc x)) y p q = absurd (omega arith)

differ-below : (x y : ℕ) → x < 2 → y < 2 → differ x y < 2
differ-below x y p q = omega (arith, differ-bit x y p q)

xor-bit : (a b i : ℕ) → element 1 (bit_xor a b) i ≡ (element 1 a i + element 1 b i) % 2
xor-bit a b i = op-bit bit_xor differ xor_shr xor_step differ-below a b i ∙ differ-bit _ _ (element-below 1 a i) (element-below 1 b i)

-- every bit of a word of ones is 1
ones_bit : (i : ℕ) → i < 64 → element 1 (2 ^ 64 - 1) i ≡ 1
unfolding element
ones_bit i h =
    let place : 1 * i ≡ i = omega arith in
    let parts : 2 ^ 64 - 1 ≡ (2 ^ (64 - i) - 1) * 2 ^ i + (2 ^ i - 1) =
    ap (λ k. 2 ^ k - 1) (let e : 64 ≡ 64 - i + i = omega arith in e) ∙ ones_split (64 - i) i in
    let even : 2 ^ (64 - i) ≡ 2 ^ (64 - i - 1) * 2 = ap (λ k. 2 ^ k) (let e : 64 - i ≡ suc (64 - i - 1) = omega arith in e) ∙ pow-suc 2 (64 - i - 1) in
    rw place (ap (λ x. x / 2 ^ i % 2) parts ∙ ap (λ x. x % 2) (pow.high (2 ^ (64 - i) - 1) i (ones_lt i)) ∙ omega (arith, pow_pos (64 - i - 1)))

not-bit : (a i : ℕ) → i < 64 → element 1 (bit_xor a (2 ^ 64 - 1)) i ≡ not_bit (element 1 a i)
not-bit a i h = xor-bit a (2 ^ 64 - 1) i ∙ omega (arith, ones_bit i h, element-below 1 a i)

-- what the code makes of words
abbrev pub logic_word : Logic → ℕ → ℕ → ℕ → ℕ
logic_word And d s t = bit_and s t
logic_word Or d s t = bit_or s t
logic_word Nor d s t = bit_xor (bit_or s t) (2 ^ 64 - 1)
logic_word Xor d s t = bit_xor s t
logic_word Bmnz d s t = bit_or (bit_and s t) (bit_and d (bit_xor t (2 ^ 64 - 1)))
logic_word Bmz d s t = bit_or (bit_and s (bit_xor t (2 ^ 64 - 1))) (bit_and d t)
logic_word Bsel d s t = bit_or (bit_and s (bit_xor d (2 ^ 64 - 1))) (bit_and t d)

word-bit : (op : Logic) (d s t i : ℕ) → i < 64 → element 1 (logic_word op d s t) i ≡ logic_bit op (element 1 d i) (element 1 s i) (element 1 t i)
word-bit And d s t i h = and-bit s t i
word-bit Or d s t i h = or-bit s t i
word-bit Nor d s t i h = not-bit (bit_or s t) i h ∙ ap not_bit (or-bit s t i)
word-bit Xor d s t i h = xor-bit s t i
word-bit Bmnz d s t i h = rw (or-bit, and-bit s t, and-bit d (bit_xor t (2 ^ 64 - 1)), not-bit t i h)
word-bit Bmz d s t i h = rw (or-bit, and-bit s (bit_xor t (2 ^ 64 - 1)), and-bit d t, not-bit t i h)
word-bit Bsel d s t i h = rw (or-bit, and-bit s (bit_xor d (2 ^ 64 - 1)), and-bit t d, not-bit d i h)

inverted : {x : ℕ} → x < 2 ^ 64 → bit_xor x (2 ^ 64 - 1) < 2 ^ 64
inverted {x} h = xor_lt 64 x (2 ^ 64 - 1) h (ones_lt 64)

module _ (d s t : ℕ) (hd : d < 2 ^ 64) (hs : s < 2 ^ 64) (ht : t < 2 ^ 64) where
  word_below : (op : Logic) → logic_word op d s t < 2 ^ 64
  word_below And = and_lt 64 s t hs ht
  word_below Or = or_lt 64 s t hs ht
  word_below Nor = inverted (or_lt 64 s t hs ht)
  word_below Xor = xor_lt 64 s t hs ht
  word_below Bmnz = or_lt 64 _ _ (and_lt 64 s t hs ht) (and_lt 64 d _ hd (inverted ht))
  word_below Bmz = or_lt 64 _ _ (and_lt 64 s _ hs (inverted ht)) (and_lt 64 d t hd ht)
  word_below Bsel = or_lt 64 _ _ (and_lt 64 s _ hs (inverted hd)) (and_lt 64 t d ht hd)

  -- a word is the number with its bits
  pub word-bits : (op : Logic) → logic_word op d s t ≡ build 1 (λ i. logic_bit op (element 1 d i) (element 1 s i) (element 1 t i)) 64
  word-bits op = sym (mod-eq_of_lt (word_below op)) ∙ sym (build-element 1 (logic_word op d s t) 64) ∙ build-same 1 _ _ 64 (word-bit op d s t)

bit_below : (op : Logic) (d s t : ℕ) → d < 2 → s < 2 → t < 2 → logic_bit op d s t < 2
bit_below And d s t p q r = omega arith
bit_below Or d s t p q r = omega arith
bit_below Nor d s t p q r = omega arith
bit_below Xor d s t p q r = omega arith
bit_below Bmnz d s t p q r = omega arith
bit_below Bmz d s t p q r = omega arith
bit_below Bsel d s t p q r = omega arith

pub logic-below : (op : Logic) (d s t : ℕ) → together 1 (logic_bit op) d s t < 2 ^ 128
logic-below op d s t = whole_below shares-bit _ (made-below 1 (logic_bit op) (bit_below op) d s t)

-- a bit of the result depends on that bit of the sources alone
pub logic-untouched : (op : Logic) (d s t d' s' t' i : ℕ) → i < 128
    → element 1 d i ≡ element 1 d' i → element 1 s i ≡ element 1 s' i → element 1 t i ≡ element 1 t' i
    → element 1 (together 1 (logic_bit op) d s t) i ≡ element 1 (together 1 (logic_bit op) d' s' t') i
logic-untouched op d s t d' s' t' i h p q r = untouched 1 (logic_bit op) (bit_below op) d s t d' s' t' i h p q r

-- a register goes by its two words
pub both_bits : (op : Logic) (d s t r : Register) → Words d → Words s → Words t → Words r
    → r.low ≡ build 1 (λ i. logic_bit op (element 1 d.low i) (element 1 s.low i) (element 1 t.low i)) 64
    → r.high ≡ build 1 (λ i. logic_bit op (element 1 d.high i) (element 1 s.high i) (element 1 t.high i)) 64
    → r ≡ register (together 1 (logic_bit op) (value d) (value s) (value t))
both_bits op d s t r hd hs ht hr low high =
    is-register hr (together-words 1 (logic_bit op) shares-bit d s t hd hs ht _ _ low high)
