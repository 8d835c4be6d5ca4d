-- Parts of a list of bytes: what a part is after a replacement, byte by byte and whole, and two replacements side by
-- side.
use mathlib.Core.Path.{◌≡◌, refl, sym, ap, ap₂, ◌∙◌}
use mathlib.Core.List.{List, [], ◌∷◌, ◌++◌, append_assoc}
use Prim.Native.Nat.{ℕ, zero, suc, ◌+◌, ◌-◌, ◌≤◌, ◌<◌}
use native.Mathlib.Decide.{dec_lt}
use native.Mathlib.Nat.{add-suc}
use native.Mathlib.Numerals.{add-one}
use native.Mathlib.Omega.{arith}
use lib.ListN.{length, take, drop, get_or, get_or-append, length-append, length-take, length-drop, drop_of_length-le}
use borrow.Rule.Slice.PartMut.{put_mid}
use lib.Seq.{ext_get_or, get_or-append-add, get_or-drop, get_or-take, drop-cons, take_at, drop_at, drop-drop}
use Rattle.memory.specs.Bytes.{part, replaced}

pub length_part : (s : List ℕ) (at n : ℕ) → at + n ≤ length s → length (part s at n) ≡ n
length_part s at n h = simp (length-take, length-drop) (omega arith)

pub part-cons : (s : List ℕ) (at n : ℕ) → at < length s → part s at (suc n) ≡ get_or s at 0 ∷ part s (at + 1) n
part-cons s at n h = rw (drop-cons s at 0 h, add-one)

part-next : (s : List ℕ) (at k n : ℕ) → at + k < length s
    → part s (at + k) (suc n) ≡ get_or s (at + k) 0 ∷ part s (at + suc k) n
part-next s at k n h = rw (drop-cons s (at + k) 0 h, ← add-suc)

-- past the end there are no bytes
pub part-past : (s : List ℕ) (at n : ℕ) → length s ≤ at → part s at n ≡ []
part-past s at zero h = refl
part-past s at (suc n) h = ap (take (suc n)) (drop_of_length-le s h)

pub get_d_part : (s : List ℕ) (at n k : ℕ) → k < n → get_or (part s at n) k 0 ≡ get_or s (at + k) 0
get_d_part s at n k h = get_or-take n (drop at s) k 0 h ∙ get_or-drop at s k 0

-- two parts are one where their bytes are
pub same-part : (s₁ s₂ : List ℕ) (i j n : ℕ) → i + n ≤ length s₁ → j + n ≤ length s₂
    → ((k : ℕ) → k < n → get_or s₁ (i + k) 0 ≡ get_or s₂ (j + k) 0) → part s₁ i n ≡ part s₂ j n
same-part s₁ s₂ i j n h₁ h₂ f =
    ext_get_or 0 (part s₁ i n) (part s₂ j n) (length_part s₁ i n h₁ ∙ sym (length_part s₂ j n h₂))
    (λ k h.
    let l : k < n = omega (arith, length_part s₁ i n h₁) in
    get_d_part s₁ i n k l ∙ f k l ∙ sym (get_d_part s₂ j n k l))

-- a write to `d[at..at + k]` is the replacement by what is written
pub replaced-mid : (d : List ℕ) (at : ℕ) {k : ℕ} {s t : List ℕ} → s ≡ t → k ≡ length t
    → put_mid at k d s ≡ replaced d at t
unfolding replaced
replaced-mid d at {t = t} e l =
    ap₂ (λ n s. take at d ++ (s ++ drop n (drop at d))) l e
    ∙ sym (append_assoc (take at d) t (drop (length t) (drop at d)))
    ∙ ap (λ l. take at d ++ t ++ l) (drop-drop (length t) at d)

module _ (d : List ℕ) (at : ℕ) (s : List ℕ) (fits : at + length s ≤ length d) where
  pub length-replaced : length (replaced d at s) ≡ length d
  unfolding replaced
  length-replaced = simp (length-append, length-take, length-drop) (omega arith)

  front : length (take at d) ≡ at
  front = simp length-take (omega arith)

  head-length : length (take at d ++ s) ≡ at + length s
  head-length = simp (length-append, length-take) (omega arith)

  -- the bytes of a replacement, one by one
  pub replaced-before : (k : ℕ) → k < at → get_or (replaced d at s) k 0 ≡ get_or d k 0
  unfolding replaced
  replaced-before k h =
      get_or-append (take at d ++ s) (drop (at + length s) d) 0 k (omega (arith, head-length))
      ∙ get_or-append (take at d) s 0 k (omega (arith, front))
      ∙ get_or-take at d k 0 h

  pub replaced-inside : (k : ℕ) → at ≤ k → k < at + length s → get_or (replaced d at s) k 0 ≡ get_or s (k - at) 0
  unfolding replaced
  replaced-inside k l h =
      let t : k ≡ length (take at d) + (k - at) = omega (arith, front) in
      get_or-append (take at d ++ s) (drop (at + length s) d) 0 k (omega (arith, head-length))
      ∙ ap (λ n. get_or (take at d ++ s) n 0) t
      ∙ get_or-append-add (take at d) s (k - at) 0

  pub replaced-after : (k : ℕ) → at + length s ≤ k → get_or (replaced d at s) k 0 ≡ get_or d k 0
  unfolding replaced
  replaced-after k h =
      let t : k ≡ length (take at d ++ s) + (k - (at + length s)) = omega (arith, head-length) in
      let u : at + length s + (k - (at + length s)) ≡ k = omega arith in
      ap (λ n. get_or (take at d ++ s ++ drop (at + length s) d) n 0) t
      ∙ get_or-append-add (take at d ++ s) (drop (at + length s) d) (k - (at + length s)) 0
      ∙ get_or-drop (at + length s) d (k - (at + length s)) 0
      ∙ ap (λ n. get_or d n 0) u

  -- every byte that is not in the replacement
  pub replaced-others : (k : ℕ) → ((at ≤ k) × (k < at + length s) → ⊥) → get_or (replaced d at s) k 0 ≡ get_or d k 0
  replaced-others k out = go (dec_lt k at) (dec_lt k (at + length s))
    where
      go : Dec (k < at) → Dec (k < at + length s) → get_or (replaced d at s) k 0 ≡ get_or d k 0
      go (yes l) r = replaced-before k l
      go (no l) (yes r) = absurd (out (omega arith, r))
      go (no l) (no r) = replaced-after k (omega arith)

  -- the part that was replaced, and any part beside it
  pub part-replaced : part (replaced d at s) at (length s) ≡ s
  unfolding replaced
  part-replaced =
      ap (λ l. take (length s) (drop at l)) (append_assoc (take at d) s (drop (at + length s) d))
      ∙ ap (take (length s)) (drop_at (take at d) (s ++ drop (at + length s) d) at front)
      ∙ take_at s (drop (at + length s) d) (length s) refl

  pub part-before : (i n : ℕ) → i + n ≤ at → part (replaced d at s) i n ≡ part d i n
  part-before i n h =
      same-part (replaced d at s) d i i n (omega (arith, length-replaced)) (omega arith) (λ k l. replaced-before (i + k) (omega arith))

  pub part-after : (i n : ℕ) → at + length s ≤ i → i + n ≤ length d → part (replaced d at s) i n ≡ part d i n
  part-after i n h e =
      same-part (replaced d at s) d i i n (omega (arith, length-replaced)) e (λ k l. replaced-after (i + k) (omega arith))

  -- a replacement beside a replacement is one
  pub replaced-beside : (t : List ℕ) → replaced (replaced d at s) (at + length s) t ≡ replaced d at (s ++ t)
  unfolding replaced
  replaced-beside t =
      let e : at + length s + length t ≡ at + length (s ++ t) = rw length-append (omega arith) in
      let after : drop (at + length s + length t) (replaced d at s) ≡ drop (at + length (s ++ t)) d =
      sym (drop-drop (length t) (at + length s) (replaced d at s))
      ∙ ap (drop (length t)) (drop_at (take at d ++ s) (drop (at + length s) d) (at + length s) head-length)
      ∙ drop-drop (length t) (at + length s) d
      ∙ ap (λ n. drop n d) e in
      ap₂ (λ l r. l ++ t ++ r) (take_at (take at d ++ s) (drop (at + length s) d) (at + length s) head-length) after
      ∙ ap (λ l. l ++ drop (at + length (s ++ t)) d) (append_assoc (take at d) s t)
