-- The elements that VSHF chooses by its controls, and what its loop keeps.
use mathlib.Core.Path.{◌≡◌, refl, sym, ap, ap₂, ◌∙◌}
use mathlib.Core.Bool.{cond}
use mathlib.Core.List.{List}
use Prim.Native.Nat.{ℕ, zero, suc, ◌+◌, ◌-◌, ◌*◌, ◌/◌, ◌%◌, ◌^◌, ◌≤◌, ◌<◌}
use native.Mathlib.Nat.{lt_of_mul-lt-mul_left}
use native.Mathlib.Omega.{arith}
use borrow.Author.Tests.{eq-eqb, ne_eqb}
use lib.Dec.{eqb, ltb, lit<}
use lib.Bits.{bit_and, and_mask}
use lib.Pow.{pow_pos, pow_mono, mod-mod-pow, shl_exact}
use Rattle.element.proofs.Diff.{cond_below}
use Rattle.isa.specs.declared.Width.{Width}
use Rattle.isa.specs.declared.Width.TheVariants.{B, H, W, D}
use Rattle.isa.specs.Widths.{bits}
use Rattle.memory.specs.declared.Register.{Register}
use Rattle.memory.specs.Value.{value, register}
use Rattle.memory.proofs.Values.{Words, is-register}
use Rattle.vectors.specs.Register.{element, build, whole}
use Rattle.vectors.proofs.ElementLaws.{element-below, build-below, build-same}
use Rattle.vectors.proofs.Sizes.{Shares, shares, inside}
use Rattle.vectors.proofs.Wholes.{value_low, value-high, whole_words}
use Rattle.permute.specs.Permute.{both, chosen_by_control}
use lib.ListN.{get_or}
use Rattle.permute.proofs.SideLaws.{both_at, place-first, place-second, low_word, high_word}

-- the low bits of a control
reach-mask : (w : Width) (c : ℕ) → bit_and c (256 / bits w - 1) ≡ c % 64 % (2 * (128 / bits w))
reach-mask B c = and_mask c 5 ∙ sym (mod-mod-pow c 1 5)
reach-mask H c = and_mask c 4 ∙ sym (mod-mod-pow c 2 4)
reach-mask W c = and_mask c 3 ∙ sym (mod-mod-pow c 3 3)
reach-mask D c = and_mask c 2 ∙ sym (mod-mod-pow c 4 2)

-- where the element that a control chooses begins, in bits
place-below : (w : Width) (c : ℕ) → bits w * bit_and c (256 / bits w - 1) < 256
place-below B c = omega (arith, and_mask c 5)
place-below H c = omega (arith, and_mask c 4)
place-below W c = omega (arith, and_mask c 3)
place-below D c = omega (arith, and_mask c 2)

-- what a control c chooses
abbrev pub told : ℕ → ℕ → ℕ → ℕ → ℕ
told n s t c = cond (eqb (c / 64 % 4) 0) (both n s t (c % 64 % (2 * (128 / n)))) 0

-- the same control in a word and in a register
pub chosen_at : (n s t d x i j : ℕ) → element n d i ≡ element n x j
    → chosen_by_control n d s t i ≡ chosen_by_control n x s t j
unfolding chosen_by_control
chosen_at n s t d x i j e = ap (told n s t) e

-- a register goes by its two words: the controls of a word are the register's
module _ (w : Width) (d r : Register) (s t : ℕ) (hd : Words d) (hr : Words r) where
  abbrev n : ℕ
  n = bits w

  pub both-chosen : r.low ≡ build n (chosen_by_control n d.low s t) (64 / n)
      → r.high ≡ build n (chosen_by_control n d.high s t) (64 / n)
      → r ≡ register (whole n (chosen_by_control n (value d) s t))
  both-chosen low high =
      is-register hr
      (whole_words (shares w) (chosen_by_control n (value d) s t) _ _
      (low ∙ build-same n (chosen_by_control n d.low s t) (chosen_by_control n (value d) s t) (64 / n)
      (λ i l. chosen_at n s t d.low (value d) i i (sym (value_low (shares w) hd i l))))
      (high ∙ build-same n (chosen_by_control n d.high s t) (λ i. chosen_by_control n (value d) s t (64 / n + i))
      (64 / n) (λ i l. chosen_at n s t d.high (value d) i (64 / n + i) (sym (value-high (shares w) hd i)))))

both_below : (n s t j : ℕ) → both n s t j < 2 ^ n
unfolding both
both_below n s t j = cond_below (ltb j (128 / n)) (element-below n t j) (element-below n s (j - 128 / n))

control-below : (n d s t i : ℕ) → chosen_by_control n d s t i < 2 ^ n
unfolding chosen_by_control
control-below n d s t i =
    cond_below (eqb (element n d i / 64 % 4) 0)
    (both_below n s t (element n d i % 64 % (2 * (128 / n)))) (pow_pos n)

-- only the lowest byte of a control counts
control-cut : (w : Width) (x : ℕ) → x % 2 ^ bits w % 256 ≡ x % 256
control-cut B x = mod-mod-pow x 0 8
control-cut H x = mod-mod-pow x 8 8
control-cut W x = mod-mod-pow x 24 8
control-cut D x = mod-mod-pow x 56 8

-- so what stands above it in the word may stay
control-at : (w : Width) {n p : ℕ} (d s t i : ℕ) → n ≡ bits w → p ≡ n * i
    → chosen_by_control n d s t i ≡ told n s t (d / 2 ^ p)
unfolding chosen_by_control element
control-at w d s t i en ep =
    let x = d / 2 ^ (bits w * i) in
    let top : x % 2 ^ bits w / 64 % 4 ≡ x / 64 % 4 = omega (arith, control-cut w x) in
    let low : x % 2 ^ bits w % 64 ≡ x % 64 = omega (arith, control-cut w x) in
    rw (ep, en) (ap₂ (λ a b. cond (eqb a 0) (both (bits w) s t (b % (2 * (128 / bits w)))) 0) top low)

-- out holds the elements below bit p of a word
pub record Grown (n : ℕ) (f : ℕ → ℕ) (out p : ℕ) : Type 0 where
  pub done : ℕ
  pub place : p ≡ n * done
  pub built : out ≡ build n f done
  pub within : p ≤ 64

pub grown-none : (n : ℕ) (f : ℕ → ℕ) → Grown n f 0 (n * 0)
unfolding build
grown-none n f = record { done = 0; place = refl; built = refl; within = omega arith }

module _ {n : ℕ} {f : ℕ → ℕ} {out p : ℕ} (share : Shares n) (g : Grown n f out p) where
  grown-room : p < 64 → p + n ≤ 64
  grown-room h =
      omega (arith, g.place, inside share g.done (lt_of_mul-lt-mul_left n (rw (← g.place, share.word) h)))

  grown-more : p < 64 → Grown n f (out + f g.done * 2 ^ p) (p + n)
  unfolding build
  grown-more h = record {
    done = suc g.done;
    place = omega (arith, g.place);
    built = rw (g.built, g.place) refl;
    within = grown-room h;
  }

  grown-fits : ((i : ℕ) → f i < 2 ^ n) → p < 64 → out + f g.done * 2 ^ p < 2 ^ 64
  grown-fits below h =
      let more = grown-more h in
      omega (arith, more.built, build-below n f below more.done, pow_mono (rw more.place at more.within))

-- the element that a control chooses, in its word
picked : (w : Width) (s t c : ℕ) {word : ℕ} → c / 64 % 4 ≡ 0
    → word ≡ both 64 s t (bits w * bit_and c (256 / bits w - 1) / 64)
    → bit_and (word / 2 ^ (bits w * bit_and c (256 / bits w - 1) % 64)) (2 ^ bits w - 1) ≡ told (bits w) s t c
picked w s t c h e =
    rw (e, and_mask, ← both_at w s t (bit_and c (256 / bits w - 1)), reach-mask w c, eq-eqb (c / 64 % 4) 0 h)

-- where element i of a word begins, and the one behind it
place-inside : (w : Width) (i : ℕ) → i < 64 / bits w → bits w * i < 64
place-inside B i h = omega arith
place-inside H i h = omega arith
place-inside W i h = omega arith
place-inside D i h = omega arith

pub place-next : (n i : ℕ) → n * i + n ≡ n * (i + 1)
place-next n i = omega arith

-- what the loop of VSHF has at bit p: the numbers of a width, and in out what the controls of d below p choose
pub record Turn (d s t n mask last out p : ℕ) : Type 0 where
  pub w : Width
  pub size : n ≡ bits w
  pub ones : mask ≡ 2 ^ bits w - 1
  pub reach : last ≡ 256 / bits w - 1
  pub grown : Grown n (chosen_by_control n d s t) out p

module _ {d s t n mask last out p : ℕ} (g : Turn d s t n mask last out p) where
  share : Shares n
  share = rw g.size (shares g.w)

  abbrev place : ℕ
  place = n * bit_and (d / 2 ^ p) last

  abbrev chosen : ℕ
  chosen = chosen_by_control n d s t g.grown.done

  chosen_is : chosen ≡ told n s t (d / 2 ^ p)
  chosen_is = control-at g.w d s t g.grown.done g.size g.grown.place

  more : p < 64 → {y : ℕ} → y ≡ chosen * 2 ^ p → Turn d s t n mask last (out + y) (p + n)
  more h e = record {
    w = g.w;
    size = g.size;
    ones = g.ones;
    reach = g.reach;
    grown = rw e (grown-more share g.grown h);
  }

  pub turn-place : place < 256
  turn-place = rw (g.size, g.reach) (place-below g.w (d / 2 ^ p))

  pub turn-inside : {i : ℕ} → p ≡ n * i → i < 64 / n → p < 64
  turn-inside e h = rw (e, g.size) (place-inside g.w _ (rw g.size at h))

  pub turn-room : p < 64 → p + n ≤ 64
  turn-room h = grown-room share g.grown h

  pub turn-left : p < 64 → (d / 2 ^ p / 64 % 4 ≡ 0 → ⊥) → Turn d s t n mask last out (p + n)
  turn-left h left =
      let none : chosen ≡ 0 = chosen_is ∙ rw (ne_eqb (d / 2 ^ p / 64 % 4) 0 left) in
      let same : out + 0 ≡ out = omega arith in
      rw same at (more h {y = 0} (rw none (omega arith)))

  -- x is what the control at p chooses
  module _ {x : ℕ} (h : p < 64) (is : x ≡ told n s t (d / 2 ^ p)) where
    put_is : x * 2 ^ p % 2 ^ 64 ≡ chosen * 2 ^ p
    put_is =
        ap (λ z. z * 2 ^ p % 2 ^ 64) (is ∙ sym chosen_is)
        ∙ shl_exact n p 64 (control-below n d s t g.grown.done) (omega (arith, turn-room h))

    pub put-fits : out + x * 2 ^ p % 2 ^ 64 < 2 ^ 64
    put-fits = rw put_is (grown-fits share g.grown (control-below n d s t) h)

    pub put-taken : Turn d s t n mask last (out + x * 2 ^ p % 2 ^ 64) (p + n)
    put-taken = more h put_is

  module _ {word : ℕ} (h : p < 64) (taken : d / 2 ^ p / 64 % 4 ≡ 0) (e : word ≡ both 64 s t (place / 64)) where
    abbrev cut : ℕ
    cut = bit_and (word / 2 ^ (place % 64)) mask

    cut-is : cut ≡ told n s t (d / 2 ^ p)
    cut-is = rw (g.ones, g.reach, g.size) (picked g.w s t (d / 2 ^ p) taken (rw (g.reach, g.size) at e))

    pub turn-fits : out + cut * 2 ^ p % 2 ^ 64 < 2 ^ 64
    turn-fits = put-fits h cut-is

    pub turn-taken : Turn d s t n mask last (out + cut * 2 ^ p % 2 ^ 64) (p + n)
    turn-taken = put-taken h cut-is

-- the registers whose words a list has, the first two wt's and the others ws's
abbrev pub first : List ℕ → Register
first l = record { low = get_or l 0 0; high = get_or l 1 0 }

abbrev pub second : List ℕ → Register
second l = record { low = get_or l 2 0; high = get_or l 3 0 }

word_at : (l : List ℕ) → Words (first l) → Words (second l) → (q : ℕ) → q < 4
    → get_or l q 0 ≡ both 64 (value (second l)) (value (first l)) q
word_at l t s zero h = low_word t ∙ place-first 64 (value (second l)) (value (first l)) 0 refl (lit< tt)
word_at l t s (suc zero) h = high_word t ∙ place-first 64 (value (second l)) (value (first l)) 1 refl (lit< tt)
word_at l t s (suc (suc zero)) h = low_word s ∙ place-second 64 (value (second l)) (value (first l)) 0 refl
word_at l t s (suc (suc (suc zero))) h = high_word s ∙ place-second 64 (value (second l)) (value (first l)) 1 refl
word_at l t s (suc (suc (suc (suc q)))) h = absurd (omega arith)

-- and what the loop has of them
pub record Held (d : ℕ) (words : List ℕ) (n mask last out p : ℕ) : Type 0 where
  pub t : Words (first words)
  pub s : Words (second words)
  pub turn : Turn d (value (second words)) (value (first words)) n mask last out p

pub held_word : {d : ℕ} {words : List ℕ} {n mask last out p : ℕ} → Held d words n mask last out p
    → get_or words (n * bit_and (d / 2 ^ p) last / 64) 0
    ≡ both 64 (value (second words)) (value (first words)) (n * bit_and (d / 2 ^ p) last / 64)
held_word {words = words} h = word_at words h.t h.s _ (omega (arith, turn-place h.turn))
