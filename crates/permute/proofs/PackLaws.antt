-- Where the packs and the interleaves take an element from, and their results word by word.
use mathlib.Core.Path.{◌≡◌, sym, ap, ap₂, ◌∙◌}
use mathlib.Core.Bool.{cond}
use Prim.Native.Nat.{ℕ, zero, suc, ◌+◌, ◌*◌, ◌/◌, ◌%◌, ◌^◌, ◌≤◌, ◌<◌}
use native.Mathlib.Omega.{arith}
use lib.Dec.{eqb}
use Rattle.isa.specs.declared.Pack.{Pack}
use Rattle.isa.specs.declared.Width.TheVariants.{D}
use Rattle.memory.specs.declared.Register.{Register}
use Rattle.memory.specs.Value.{value, register}
use Rattle.memory.proofs.Values.{Words, is-register}
use Rattle.vectors.specs.Register.{element, whole}
use Rattle.vectors.proofs.Sizes.{Shares, shares}
use Rattle.vectors.proofs.Wholes.{value_low, value-high, whole_words}
use Rattle.parallel.specs.Lanes.{Lanes}
use Rattle.parallel.proofs.Words.{own, built, same-lanes}
use Rattle.parallel_pack.proofs.Places.{Doubles, turns}
use Rattle.permute.specs.Permute.{both, pack_place, packed}
use Rattle.permute.proofs.SideLaws.{place-first, place-second}

-- even ones from t, odd ones from s
place-turn : (n s t b p : ℕ) {k : ℕ} → b < 2 → p < 128 / n → k ≡ b * (128 / n) + p
    → cond (eqb b 0) (element n t p) (element n s p) ≡ both n s t k
place-turn n s t zero p h l e = place-first n s t p (sym (e ∙ omega arith)) l
place-turn n s t (suc zero) p h l e = place-second n s t p (e ∙ omega arith)
place-turn n s t (suc (suc b)) p h l e = absurd (omega arith)

-- one word on: an even number of elements
one-word-on : (m k i : ℕ) (f : ℕ → ℕ → ℕ) → m ≡ k + k → f ((m + i) % 2) ((m + i) / 2) ≡ f (i % 2) (k + i / 2)
one-word-on m k i f e =
    let turn : (k + k + i) % 2 ≡ i % 2 = omega arith in
    let half : (k + k + i) / 2 ≡ k + i / 2 = omega arith in
    ap (λ z. f ((z + i) % 2) ((z + i) / 2)) e ∙ ap₂ f turn half

-- the word x has the elements of v from place `first` on
pub record Part (n first x v : ℕ) : Type 0 where
  pub below : x < 2 ^ 64
  pub at : (p : ℕ) → p < 64 / n → element n x p ≡ element n v (first + p)
  pub inside : first + 64 / n ≤ 128 / n

module _ {n : ℕ} (share : Shares n) {v : Register} (words : Words v) where
  low_part : Part n 0 v.low (value v)
  low_part = record {
    below = words.low;
    at = λ p l. let e : p ≡ 0 + p = omega arith in sym (value_low share words p l) ∙ ap (element n (value v)) e;
    inside = omega (arith, share.double);
  }

  high_part : Part n (64 / n) v.high (value v)
  high_part = record {
    below = words.high;
    at = λ p l. sym (value-high share words p);
    inside = omega (arith, share.double);
  }

-- elements of both parts in turns
turn_at : {n first x y s t : ℕ} → Shares n → Part n first x s → Part n first y t → (i p : ℕ) {k : ℕ} → p < 64 / n
    → k ≡ i % 2 * (64 / n * 2) + (first + p) → cond (eqb (i % 2) 0) (element n y p) (element n x p) ≡ both n s t k
turn_at {n} {first} {s = s} {t = t} share a b i p l e =
    ap₂ (cond (eqb (i % 2) 0)) (b.at p l) (a.at p l)
    ∙ place-turn n s t (i % 2) (first + p) (omega arith) (omega (arith, a.inside))
    (e ∙ ap (λ z. i % 2 * z + (first + p)) (omega (arith, share.double)))

-- the register of two words
abbrev two : ℕ → ℕ → Register
two lo hi = record { low = lo; high = hi }

-- a register by the elements of its words
packed-words : {n : ℕ} (share : Shares n) (op : Pack) (s t : ℕ) {lo hi : ℕ} {f g : ℕ → ℕ} → Lanes n lo f → Lanes n hi g
    → ((i : ℕ) → i < 64 / n → f i ≡ both n s t (pack_place op (64 / n) i))
    → ((i : ℕ) → i < 64 / n → g i ≡ both n s t (pack_place op (64 / n) (64 / n + i)))
    → two lo hi ≡ register (whole n (packed op n s t))
unfolding packed
packed-words share op s t {lo} {hi} a b p q =
    is-register {r = two lo hi} (record { low = a.below; high = b.below })
    (whole_words share _ lo hi (built share (same-lanes share a p)) (built share (same-lanes share b q)))

module _ {n : ℕ} (d : Doubles n) (op : Pack) (s t : Register) {lo hi : ℕ} where
  -- PCKEV and PCKOD: a word of t and one of s
  pub seconds-packed : (o : ℕ) → o ≤ 1 → ((i : ℕ) → pack_place op (64 / n) i ≡ i * 2 + o)
      → Lanes n lo (λ i. element n (value t) (i * 2 + o)) → Lanes n hi (λ i. element n (value s) (i * 2 + o))
      → two lo hi ≡ register (whole n (packed op n (value s) (value t)))
  seconds-packed o h place a b =
      packed-words d.one op (value s) (value t) a b
      (λ i l. place-first n (value s) (value t) (i * 2 + o) (sym (place i)) (omega (arith, d.one.double, d.half)))
      (λ i l. place-second n (value s) (value t) (i * 2 + o) (place (64 / n + i) ∙ omega (arith, d.one.double)))

  -- ILVR and ILVL: both halves of one word of each
  halves-packed : {x y : ℕ} (first : ℕ) → Part n first x (value s) → Part n first y (value t)
      → ((i : ℕ) → pack_place op (64 / n) i ≡ i % 2 * (64 / n * 2) + (first + i / 2))
      → Lanes n lo (turns (λ j. element n y (j + 32 / n * 0)) (λ j. element n x (j + 32 / n * 0)))
      → Lanes n hi (turns (λ j. element n y (j + 32 / n * 1)) (λ j. element n x (j + 32 / n * 1)))
      → two lo hi ≡ register (whole n (packed op n (value s) (value t)))
  halves-packed first px py place a b =
      packed-words d.one op (value s) (value t) a b
      (λ i l. turn_at d.one px py i (i / 2 + 32 / n * 0) (omega (arith, d.half))
      (place i ∙ ap (λ z. i % 2 * (64 / n * 2) + (first + z)) (omega arith)))
      (λ i l. turn_at d.one px py i (i / 2 + 32 / n * 1) (omega (arith, d.half))
      (place (64 / n + i) ∙ one-word-on (64 / n) (32 / n) i (λ b h. b * (64 / n * 2) + (first + h)) d.half
      ∙ ap (λ z. i % 2 * (64 / n * 2) + (first + z)) (omega arith)))

  module _ (hs : Words s) (ht : Words t) where
    pub low_halves : ((i : ℕ) → pack_place op (64 / n) i ≡ i % 2 * (64 / n * 2) + (0 + i / 2))
        → Lanes n lo (turns (λ j. element n t.low (j + 32 / n * 0)) (λ j. element n s.low (j + 32 / n * 0)))
        → Lanes n hi (turns (λ j. element n t.low (j + 32 / n * 1)) (λ j. element n s.low (j + 32 / n * 1)))
        → two lo hi ≡ register (whole n (packed op n (value s) (value t)))
    low_halves = halves-packed 0 (low_part d.one hs) (low_part d.one ht)

    pub high-halves : ((i : ℕ) → pack_place op (64 / n) i ≡ i % 2 * (64 / n * 2) + (64 / n + i / 2))
        → Lanes n lo (turns (λ j. element n t.high (j + 32 / n * 0)) (λ j. element n s.high (j + 32 / n * 0)))
        → Lanes n hi (turns (λ j. element n t.high (j + 32 / n * 1)) (λ j. element n s.high (j + 32 / n * 1)))
        → two lo hi ≡ register (whole n (packed op n (value s) (value t)))
    high-halves = halves-packed (64 / n) (high_part d.one hs) (high_part d.one ht)

    -- ILVEV and ILVOD: the words of each
    pub seconds-turned : (o : ℕ) → o ≤ 1
        → ((i : ℕ) → pack_place op (64 / n) i ≡ i % 2 * (64 / n * 2) + (i / 2 * 2 + o))
        → Lanes n lo (turns (λ j. element n t.low (j * 2 + o)) (λ j. element n s.low (j * 2 + o)))
        → Lanes n hi (turns (λ j. element n t.high (j * 2 + o)) (λ j. element n s.high (j * 2 + o)))
        → two lo hi ≡ register (whole n (packed op n (value s) (value t)))
    seconds-turned o h place a b =
        packed-words d.one op (value s) (value t) a b
        (λ i l. turn_at d.one (low_part d.one hs) (low_part d.one ht) i (i / 2 * 2 + o)
        (omega (arith, d.half)) (place i ∙ ap (λ z. i % 2 * (64 / n * 2) + z) (omega arith)))
        (λ i l. turn_at d.one (high_part d.one hs) (high_part d.one ht) i (i / 2 * 2 + o)
        (omega (arith, d.half))
        (place (64 / n + i) ∙ one-word-on (64 / n) (32 / n) i (λ b h. b * (64 / n * 2) + (h * 2 + o)) d.half
        ∙ ap (λ z. i % 2 * (64 / n * 2) + z) (omega (arith, d.half))))

-- where a word is an element: one of t and the same of s
words-packed : (op : Pack) {s t first x y : ℕ} → Part 64 first x s → Part 64 first y t
    → ((i : ℕ) → i < 1 → first + i ≡ pack_place op 1 i) → ((i : ℕ) → i < 1 → pack_place op 1 (1 + i) ≡ 2 + (first + i))
    → two y x ≡ register (whole 64 (packed op 64 s t))
words-packed op {s} {t} {first} {x} {y} a b p q =
    packed-words (shares D) op s t (own (shares D) y b.below) (own (shares D) x a.below)
    (λ i l. b.at i l ∙ place-first 64 s t (first + i) (p i l) (omega (arith, b.inside)))
    (λ i l. a.at i l ∙ place-second 64 s t (first + i) (q i l))

-- the low words of both, or the high ones
module _ (op : Pack) (s t : Register) (hs : Words s) (ht : Words t) where
  pub lows-packed : ((i : ℕ) → i < 1 → 0 + i ≡ pack_place op 1 i) → ((i : ℕ) → i < 1 → pack_place op 1 (1 + i) ≡ 2 + i)
      → two t.low s.low ≡ register (whole 64 (packed op 64 (value s) (value t)))
  lows-packed p q =
      words-packed op (low_part (shares D) hs) (low_part (shares D) ht) p (λ i l. q i l ∙ omega arith)

  pub highs-packed : ((i : ℕ) → i < 1 → 1 + i ≡ pack_place op 1 i) → ((i : ℕ) → i < 1 → pack_place op 1 (1 + i) ≡ 3 + i)
      → two t.high s.high ≡ register (whole 64 (packed op 64 (value s) (value t)))
  highs-packed p q =
      words-packed op (high_part (shares D) hs) (high_part (shares D) ht) p (λ i l. q i l ∙ omega arith)
