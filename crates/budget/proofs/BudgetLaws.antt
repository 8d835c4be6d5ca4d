-- Laws of the definition: when an offset is at least 1, and when every word of a program goes forward. Assumes nothing.
use mathlib.Core.Path.{◌≡◌, refl, sym, ap, ◌∙◌}
use mathlib.Core.Bool.{Bool, true, false, cond, ◌&&◌}
use mathlib.Core.List.{List}
use Prim.Native.Nat.{ℕ, zero, suc, ◌+◌, ◌*◌, ◌^◌, ◌<◌}
use native.Mathlib.Decide.{dec_lt}
use native.Mathlib.Omega.{arith}
use borrow.Author.Tests.{le-ltb}
use lib.Dec.{ltb}
use lib.IntN.{pos, ◌-ℤ◌}
use lib.Signed.{lt_z}
use Rattle.element.specs.Value.{signed}
use Rattle.element.proofs.Diff.{diff-pos, diff-minus, diff-lt}
use Rattle.memory.specs.Bytes.{part, number}
use Rattle.reading.specs.Reading.{read_of}
use Rattle.state.proofs.TestLaws.{and-false}
use Rattle.budget.specs.Budget.{ahead, forward, forward_to}

-- the field of a signed number: neither 0 nor its top bit set
pub ahead-is : (x : ℕ) → x < 2 ^ 16 → ltb x 32768 && ltb 0 x ≡ ahead x
unfolding ahead signed
ahead-is x h = go (ltb x 32768) refl
  where
    go : (t : Bool) → ltb x 32768 ≡ t → t && ltb 0 x ≡ lt_z (pos 0) (cond t (pos x) (pos x -ℤ pos (2 ^ 16)))
    go true e = refl
    go false e =
        sym (diff-lt (diff-pos 0) (diff-minus (diff-pos x) (diff-pos (2 ^ 16)))
        ∙ le-ltb (0 + (0 + 2 ^ 16)) (x + 0 + 0) (omega arith))

module _ (p : List ℕ) where
  -- word i
  abbrev pub word_at : ℕ → ℕ
  word_at i = number (part p (4 * i) 4)

  pub forward-none : forward_to p 0 ≡ true
  unfolding forward_to
  forward-none = refl

  pub forward-more : (i : ℕ) → forward_to p i ≡ true → forward (read_of (word_at i)) ≡ true → forward_to p (i + 1) ≡ true
  unfolding forward_to
  forward-more i h k =
      let one : i + 1 ≡ suc i = omega arith in
      let more : forward_to p (suc i) ≡ true = rw (h, k) in
      ap (forward_to p) one ∙ more

  -- one word that does not
  pub forward-not : (n i : ℕ) → i < n → forward (read_of (word_at i)) ≡ false → forward_to p n ≡ false
  unfolding forward_to
  forward-not zero i l h = absurd (omega arith)
  forward-not (suc n) i l h = go (dec_lt i n) (λ k. forward-not n i k h)
    where
      go : Dec (i < n) → (i < n → forward_to p n ≡ false) → forward_to p n && forward (read_of (word_at n)) ≡ false
      go (yes k) before = rw (before k)
      go (no k) before =
          let same : i ≡ n = omega arith in
          ap (λ b. forward_to p n && b) (rw same at h) ∙ and-false (forward_to p n)

  -- so every word does, exactly where all of them do
  pub forward-each : (n : ℕ) → forward_to p n ≡ true → (i : ℕ) → i < n → forward (read_of (word_at i)) ≡ true
  forward-each n h i l = go (forward (read_of (word_at i))) refl
    where
      go : (b : Bool) → forward (read_of (word_at i)) ≡ b → b ≡ true
      go true e = refl
      go false e = sym (forward-not n i l e) ∙ h

  pub forward-all : (n : ℕ) → ((i : ℕ) → i < n → forward (read_of (word_at i)) ≡ true) → forward_to p n ≡ true
  unfolding forward_to
  forward-all zero h = refl
  forward-all (suc n) h = rw (forward-all n (λ i l. h i (omega arith)), h n (omega arith))
