-- A register as two words: its elements are theirs, and what is built in two words is built whole.
use mathlib.Core.Path.{◌≡◌, sym, ap, ap₂, ◌∙◌}
use Prim.Native.Nat.{ℕ, ◌+◌, ◌*◌, ◌/◌, ◌%◌, ◌^◌, ◌≤◌, ◌<◌}
use native.Mathlib.Nat.{lt_of_lt_of_le, mod-lt, mod-eq_of_lt}
use lib.Pow.{pow_pos, pow_mono}
use Rattle.memory.specs.declared.Register.{Register}
use Rattle.memory.specs.Value.{value, register}
use Rattle.memory.proofs.Values.{Words, value-below, value-exact}
use Rattle.vectors.specs.Register.{element, build, whole, together, filled}
use Rattle.vectors.proofs.ElementLaws.{element-below, element-low, element-high, element-beyond, element-build, build-below, build-same, build-split, build-element}
use Rattle.vectors.proofs.Sizes.{Shares, outside}

module _ {n : ℕ} (share : Shares n) where
  -- the elements of a register are those of its words
  module _ {v : Register} (words : Words v) where
    pub value_low : (i : ℕ) → i < 64 / n → element n (value v) i ≡ element n v.low i
    value_low i h = rw share.word at (element-low n (64 / n) v.low v.high i h)

    pub value-high : (i : ℕ) → element n (value v) (64 / n + i) ≡ element n v.high i
    value-high i = rw share.word at (element-high n (64 / n) v.low v.high (rw share.word words.low) i)

    pub value-beyond : (i : ℕ) → 128 / n ≤ i → element n (value v) i ≡ 0
    value-beyond i h = element-beyond n (value v) i (lt_of_lt_of_le (value-below words) (pow_mono (outside share i h)))

    -- a register is the number with its elements
    pub whole-element : whole n (element n (value v)) ≡ value v
    whole-element = build-element n (value v) (128 / n) ∙ rw share.register (mod-eq_of_lt (value-below words))

  pub whole_words : (f : ℕ → ℕ) (lo hi : ℕ) → lo ≡ build n f (64 / n) → hi ≡ build n (λ i. f (64 / n + i)) (64 / n) → lo + hi * 2 ^ 64 ≡ whole n f
  whole_words f lo hi p q =
      ap₂ (λ x y. x + y * 2 ^ 64) p q
      ∙ sym (rw share.double (rw share.word at (build-split n f (64 / n) (64 / n))))

  module _ (f : ℕ → ℕ) (below : (i : ℕ) → f i < 2 ^ n) where
    pub whole_below : whole n f < 2 ^ 128
    whole_below = rw share.register at (build-below n f below (128 / n))

    pub word_below : build n f (64 / n) < 2 ^ 64
    word_below = rw share.word at (build-below n f below (64 / n))

-- three equal elements give equal results
same : (g : ℕ → ℕ → ℕ → ℕ) {d s t d' s' t' : ℕ} → d ≡ d' → s ≡ s' → t ≡ t' → g d s t ≡ g d' s' t'
same g {t = t} {d' = d'} {s' = s'} p q r = ap₂ (λ d s. g d s t) p q ∙ ap (g d' s') r

-- what is made of the same-numbered elements of three registers
module _ (n : ℕ) (g : ℕ → ℕ → ℕ → ℕ) where
  -- a register goes by its two words
  pub together-words : Shares n → (d s t : Register) → Words d → Words s → Words t → (lo hi : ℕ)
      → lo ≡ build n (λ i. g (element n d.low i) (element n s.low i) (element n t.low i)) (64 / n)
      → hi ≡ build n (λ i. g (element n d.high i) (element n s.high i) (element n t.high i)) (64 / n)
      → lo + hi * 2 ^ 64 ≡ together n g (value d) (value s) (value t)
  together-words share d s t hd hs ht lo hi p q =
      whole_words share _ lo hi
      (p ∙ build-same n _ _ (64 / n) (λ i h. sym (same g (value_low share hd i h) (value_low share hs i h) (value_low share ht i h))))
      (q ∙ build-same n _ _ (64 / n) (λ i h. sym (same g (value-high share hd i) (value-high share hs i) (value-high share ht i))))

  module _ (below : (d s t : ℕ) → d < 2 ^ n → s < 2 ^ n → t < 2 ^ n → g d s t < 2 ^ n) where
    pub made-below : (d s t i : ℕ) → g (element n d i) (element n s i) (element n t i) < 2 ^ n
    made-below d s t i = below _ _ _ (element-below n d i) (element-below n s i) (element-below n t i)

    -- element i of the result is what g makes of the elements i
    pub together-element : (d s t i : ℕ) → i < 128 / n → element n (together n g d s t) i ≡ g (element n d i) (element n s i) (element n t i)
    together-element d s t i h = element-build n _ (made-below d s t) (128 / n) i h

    -- elements cannot touch: registers that agree in element i have results that agree there
    pub untouched : (d s t d' s' t' i : ℕ) → i < 128 / n
        → element n d i ≡ element n d' i → element n s i ≡ element n s' i → element n t i ≡ element n t' i
        → element n (together n g d s t) i ≡ element n (together n g d' s' t') i
    untouched d s t d' s' t' i h p q r = together-element d s t i h ∙ same g p q r ∙ sym (together-element d' s' t' i h)

-- a filled register holds its number, and every element of it is the same
pub value-filled : {n : ℕ} → Shares n → (x : ℕ) → value (register (filled n x)) ≡ filled n x
unfolding filled
value-filled {n} share x = value-exact (whole_below share (λ _. x % 2 ^ n) (λ _. mod-lt x (pow_pos n)))

pub element-filled : (n x i : ℕ) → i < 128 / n → element n (filled n x) i ≡ x % 2 ^ n
unfolding filled
element-filled n x i h = element-build n (λ _. x % 2 ^ n) (λ _. mod-lt x (pow_pos n)) (128 / n) i h
