-- Laws of fields, each for any list of widths. Assumes nothing.
use mathlib.Core.Path.{◌≡◌, refl, sym, ap, ◌∙◌}
use mathlib.Core.Bool.{Bool, true, false}
use mathlib.Core.List.{List, [], ◌∷◌}
use Prim.Native.Nat.{ℕ, zero, suc, ◌+◌, ◌-◌, ◌*◌, ◌/◌, ◌%◌, ◌^◌, ◌≤◌, ◌<◌}
use native.Mathlib.Nat.{add_comm, mod-lt, mod-one, mod-eq_of_lt, mul_comm, mul_assoc, mul-add-div_right}
use native.Mathlib.Nat.{mul-add-mod_self_right}
use native.Mathlib.Omega.{arith}
use borrow.Author.Tests.{ltb-true, lt-ltb, le-ltb}
use lib.Arith.{digits_lt}
use lib.Dec.{ltb}
use lib.ListN.{length, get_or, drop}
use lib.Seq.{drop-cons}
use lib.Pow.{pow-add, pow_pos, pow_mono, mod-pow-add, high, shr-shr}
use Rattle.fields.specs.Fields.{pick, both, total, word_of, fits}

pub both_left : (a b : Bool) → both a b ≡ true → a ≡ true
both_left true b e = refl
both_left false b e = e

pub both_right : (a b : Bool) → both a b ≡ true → b ≡ true
both_right true b e = e
both_right false b e = absurd (let z : ◌≡◌ {A = ℕ} 0 1 = cc in omega arith)

-- what holds of both answers of a test holds of the one it picks
pub pick-elim : {A : Type 0} (P : A → Type 0) (b : Bool) (x y : A) → (b ≡ true → P x) → (b ≡ false → P y)
    → P (pick b x y)
pick-elim P true x y f g = f refl
pick-elim P false x y f g = g refl

-- what the fields of these widths hold in a word
abbrev pub cut : List ℕ → ℕ → List ℕ
cut [] w = []
cut (n ∷ ns) w = w / 2 ^ total ns % 2 ^ n ∷ cut ns w

-- ---- a word from its fields

pub word-cut-mod : (ns : List ℕ) (w : ℕ) → word_of ns (cut ns w) ≡ w % 2 ^ total ns
word-cut-mod [] w = sym (mod-one w)
word-cut-mod (n ∷ ns) w =
    ap (λ (x : ℕ). w / 2 ^ total ns % 2 ^ n * 2 ^ total ns + x) (word-cut-mod ns w) ∙ sym (mod-pow-add w n (total ns))

pub word_cut : (ns : List ℕ) (w : ℕ) → w < 2 ^ total ns → word_of ns (cut ns w) ≡ w
word_cut ns w h = word-cut-mod ns w ∙ mod-eq_of_lt h

pub fits_cut : (ns : List ℕ) (w : ℕ) → fits ns (cut ns w) ≡ true
fits_cut [] w = refl
fits_cut (n ∷ ns) w = rw (lt-ltb _ _ (mod-lt (w / 2 ^ total ns) (pow_pos n))) (fits_cut ns w)

-- ---- fields from their word

pub word_lt : (ns vs : List ℕ) → fits ns vs ≡ true → word_of ns vs < 2 ^ total ns
word_lt [] vs e = omega arith
word_lt (n ∷ ns) [] e = pow_pos (total (n ∷ ns))
word_lt (n ∷ ns) (v ∷ vs) e =
    rw (pow-add 2 n (total ns))
    (digits_lt (ltb-true v (2 ^ n) (both_left (ltb v (2 ^ n)) (fits ns vs) e))
    (word_lt ns vs (both_right (ltb v (2 ^ n)) (fits ns vs) e)))

-- what stands above the fields does not count
cut-above : (ns : List ℕ) (k r : ℕ) → cut ns (k * 2 ^ total ns + r) ≡ cut ns r
cut-above [] k r = refl
cut-above (n ∷ ns) k r =
    rw (
      pow-add 2 n (total ns),
      ← mul_assoc k (2 ^ n) (2 ^ total ns),
      cut-above ns (k * 2 ^ n) r,
      mul-add-div_right (pow_pos (total ns)) (k * 2 ^ n) r,
      mul-add-mod_self_right k (2 ^ n) (r / 2 ^ total ns),
    )

pub cut_word : (ns vs : List ℕ) → fits ns vs ≡ true → cut ns (word_of ns vs) ≡ vs
cut_word [] [] e = refl
cut_word [] (v ∷ vs) e = absurd (let z : ◌≡◌ {A = ℕ} 0 1 = cc in omega arith)
cut_word (n ∷ ns) [] e = absurd (let z : ◌≡◌ {A = ℕ} 0 1 = cc in omega arith)
cut_word (n ∷ ns) (v ∷ vs) e =
    let l : v < 2 ^ n = ltb-true v (2 ^ n) (both_left (ltb v (2 ^ n)) (fits ns vs) e) in
    let f : fits ns vs ≡ true = both_right (ltb v (2 ^ n)) (fits ns vs) e in
    rw (high v (total ns) (word_lt ns vs f), mod-eq_of_lt l, cut-above ns v (word_of ns vs), cut_word ns vs f)

-- each value is below the power of its width
pub fits-at : (ns vs : List ℕ) → fits ns vs ≡ true → (k : ℕ) → get_or vs k 0 < 2 ^ get_or ns k 0
fits-at [] [] e k = omega arith
fits-at [] (v ∷ vs) e k = absurd (let z : ◌≡◌ {A = ℕ} 0 1 = cc in omega arith)
fits-at (n ∷ ns) [] e k = absurd (let z : ◌≡◌ {A = ℕ} 0 1 = cc in omega arith)
fits-at (n ∷ ns) (v ∷ vs) e zero = ltb-true v (2 ^ n) (both_left (ltb v (2 ^ n)) (fits ns vs) e)
fits-at (n ∷ ns) (v ∷ vs) e (suc k) = fits-at ns vs (both_right (ltb v (2 ^ n)) (fits ns vs) e) k

-- the k-th of two equal lists of fields
pub item : {xs ys : List ℕ} → xs ≡ ys → (k : ℕ) → get_or xs k 0 ≡ get_or ys k 0
item e k = ap (λ (l : List ℕ). get_or l k 0) e

-- a field as two
pub split : (w lo j k : ℕ) → w / 2 ^ lo % 2 ^ (j + k) ≡ w / 2 ^ (lo + k) % 2 ^ j * 2 ^ k + w / 2 ^ lo % 2 ^ k
split w lo j k = mod-pow-add (w / 2 ^ lo) j k ∙ ap (λ (x : ℕ). x % 2 ^ j * 2 ^ k + w / 2 ^ lo % 2 ^ k) (shr-shr w lo k)

-- ---- the fields from place i on

pub total-drop : (ns : List ℕ) (i : ℕ) → total (drop i ns) ≤ total ns
total-drop ns zero = omega arith
total-drop [] (suc i) = omega arith
total-drop (n ∷ ns) (suc i) = omega (arith, total-drop ns i)

pub fits-drop : (ns vs : List ℕ) (i : ℕ) → fits (drop i ns) (drop i vs) ≡ false → fits ns vs ≡ false
fits-drop ns vs zero e = e
fits-drop [] [] (suc i) e = e
fits-drop [] (v ∷ vs) (suc i) e = refl
fits-drop (n ∷ ns) [] (suc i) e = refl
fits-drop (n ∷ ns) (v ∷ vs) (suc i) e = rw (fits-drop ns vs i e) (both_false (ltb v (2 ^ n)))
  where
    both_false : (b : Bool) → both b false ≡ false
    both_false true = refl
    both_false false = refl

-- one field more, below those from place i on
module _ (ns vs : List ℕ) (i : ℕ) (some : 0 < i) (hn : i ≤ length ns) (hv : i ≤ length vs) where
  drop-before : (l : List ℕ) → i ≤ length l → drop (i - 1) l ≡ get_or l (i - 1) 0 ∷ drop i l
  drop-before l h =
      let e : suc (i - 1) ≡ i = omega arith in
      rw e at (drop-cons l (i - 1) 0 (omega arith))

  pub width_fits : get_or ns (i - 1) 0 + total (drop i ns) ≤ total ns
  width_fits = rw (drop-before ns hn) at (total-drop ns (i - 1))

  pub word-step : word_of (drop i ns) (drop i vs) + get_or vs (i - 1) 0 * 2 ^ total (drop i ns)
      ≡ word_of (drop (i - 1) ns) (drop (i - 1) vs)
  word-step = rw (drop-before ns hn, drop-before vs hv) (add_comm _ _)

  pub scale-step : 2 ^ total (drop i ns) * 2 ^ get_or ns (i - 1) 0 ≡ 2 ^ total (drop (i - 1) ns)
  scale-step = rw (drop-before ns hn, pow-add 2 (get_or ns (i - 1) 0) (total (drop i ns))) (mul_comm _ _)

  pub scale-lt : total ns ≡ 32 → 2 ^ total (drop i ns) * 2 ^ get_or ns (i - 1) 0 ≤ 4294967296
  scale-lt e = rw scale-step (pow_mono (rw e at (total-drop ns (i - 1))))

  module _ (h : get_or vs (i - 1) 0 < 2 ^ get_or ns (i - 1) 0) (f : fits (drop i ns) (drop i vs) ≡ true) where
    pub fits-step : fits (drop (i - 1) ns) (drop (i - 1) vs) ≡ true
    fits-step = rw (drop-before ns hn, drop-before vs hv, lt-ltb _ _ h) f

    pub word_below : total ns ≡ 32 → word_of (drop i ns) (drop i vs) + get_or vs (i - 1) 0 * 2 ^ total (drop i ns) < 4294967296
    word_below e =
        rw word-step (omega (arith, word_lt (drop (i - 1) ns) (drop (i - 1) vs) fits-step, pow_mono (rw e at (total-drop ns (i - 1)))))

  pub refused : 2 ^ get_or ns (i - 1) 0 ≤ get_or vs (i - 1) 0 → fits ns vs ≡ false
  refused h = fits-drop ns vs (i - 1) (rw (drop-before ns hn, drop-before vs hv, le-ltb _ _ h))
