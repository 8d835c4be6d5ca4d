-- The bits of MSACSR: what the machine keeps of a value, and which values arm a trap, bit by bit. Assumes nothing.
use mathlib.Core.Path.{◌≡◌, refl, sym, ap, ◌∙◌}
use mathlib.Core.Bool.{not, ◌&&◌}
use mathlib.Core.Logic.{◌⊎◌, inl, inr, ⊎_elim}
use Prim.Native.Nat.{ℕ, zero, suc, ◌+◌, ◌-◌, ◌*◌, ◌/◌, ◌%◌, ◌^◌, ◌≤◌, ◌<◌}
use native.Mathlib.Decide.{dec_lt}
use native.Mathlib.Nat.{div-eq_of_lt, zero-div}
use native.Mathlib.Omega.{arith}
use borrow.Author.Tests.{eqb-true}
use lib.Dec.{eqb}
use lib.Pow.{field, mod-mod-pow, pow_mono, shr-shr}
use Rattle.order.proofs.Every.{every-at}
use Rattle.state.specs.Csr.{masked, bit, arms}
use Rattle.demands.specs.AtCounter.{Left, SharedBit, Arms}
use Rattle.demands.specs.Tables.{Not, Some, Bit, csr_bits}
use Rattle.demands.proofs.Reflects.{Reflects, likewise, eq-reflects, or-reflects, and-reflects, not-reflects}

-- the low 19 bits are all there
low-there : (k : ℕ) → k < 19 → Bit k csr_bits
low-there k h = eqb-true _ 1 (every-at 19 (λ j. eqb (csr_bits / 2 ^ j % 2) 1) refl k h)

-- a bit below n is one of the low n
pub low_bit : (n x k : ℕ) → k < n → x % 2 ^ n / 2 ^ k % 2 ≡ x / 2 ^ k % 2
low_bit n x k h =
    let e : n ≡ suc (n - 1 - k) + k = omega arith in
    let f : suc (n - 1 - k) ≡ (n - 1 - k) + 1 = omega arith in
    ap (λ n. x % 2 ^ n / 2 ^ k % 2) e ∙ ap (λ n. n % 2) (field x (suc (n - 1 - k)) k)
    ∙ ap (λ n. x / 2 ^ k % 2 ^ n % 2) f
    ∙ mod-mod-pow (x / 2 ^ k) (n - 1 - k) 1

-- and masking keeps it
kept-bit : (x k : ℕ) → k < 19 → masked x / 2 ^ k % 2 ≡ x / 2 ^ k % 2
kept-bit x k h =
    let e : masked x % 2 ^ 19 ≡ x % 2 ^ 19 = omega arith in
    sym (low_bit 19 (masked x) k h) ∙ ap (λ n. n / 2 ^ k % 2) e ∙ low_bit 19 x k h

pub left-reflects : (x k : ℕ) → k < 19 → Reflects (bit k (masked x)) (Left x k)
left-reflects x k h =
    likewise (λ b. (sym (kept-bit x k h) ∙ b, low-there k h)) (λ l. kept-bit x k h ∙ l.0)
    (eq-reflects (masked x / 2 ^ k % 2) 1)

module _ (x : ℕ) where
  -- position k of the five
  abbrev pub Pair : ℕ → Type 0
  Pair k = Left x (12 + k) × Left x (7 + k)

  pub pair : (k : ℕ) → k < 5 → Reflects (bit (12 + k) (masked x) && bit (7 + k) (masked x)) (Pair k)
  pair k h =
      and-reflects (bit (12 + k) (masked x)) (bit (7 + k) (masked x)) (left-reflects x (12 + k) (omega arith))
      (left-reflects x (7 + k) (omega arith))

  abbrev Pairs : Type 0
  Pairs = ((((Left x 17 ⊎ Pair 4) ⊎ Pair 3) ⊎ Pair 2) ⊎ Pair 1) ⊎ Pair 0

  -- position j of the five as bit 12 + j
  pub shares : (k : ℕ) → 12 ≤ k → k < 17 → Pair (k - 12) → SharedBit x k
  shares k l h p =
      let e : 12 + (k - 12) ≡ k = omega arith in
      let f : 7 + (k - 12) ≡ k - 5 = omega arith in
      (l, h, rw e at p.0, rw f at p.1)

  pub shared-pair : (k : ℕ) → SharedBit x k → Pair (k - 12)
  shared-pair k s =
      let l = s.0 in
      let e : 12 + (k - 12) ≡ k = omega arith in
      let f : 7 + (k - 12) ≡ k - 5 = omega arith in
      (rw e s.2, rw f s.3)

  some : (k : ℕ) → k < 5 → Pair k → Arms x
  some k h p =
      let e : 12 + k - 12 ≡ k = omega arith in
      inr (record { number = 12 + k; holds = shares (12 + k) (omega arith) (omega arith) (rw e p) })

  pairs_of : (k : ℕ) → k < 5 → Pair k → Pairs
  pairs_of zero h p = inr p
  pairs_of (suc zero) h p = inl (inr p)
  pairs_of (suc (suc zero)) h p = inl (inl (inr p))
  pairs_of (suc (suc (suc zero))) h p = inl (inl (inl (inr p)))
  pairs_of (suc (suc (suc (suc zero)))) h p = inl (inl (inl (inl (inr p))))
  pairs_of (suc (suc (suc (suc (suc k))))) h p = absurd (omega arith)

  pairs-arm : Pairs → Arms x
  pairs-arm =
      ⊎_elim (⊎_elim (⊎_elim (⊎_elim (⊎_elim inl (some 4 (omega arith))) (some 3 (omega arith))) (some 2 (omega arith)))
      (some 1 (omega arith)))
      (some 0 (omega arith))

  arm-pairs : Arms x → Pairs
  arm-pairs =
      ⊎_elim (λ l. inl (inl (inl (inl (inl l)))))
      (λ s.
      let l = s.holds.0 in
      let h = s.holds.1 in
      pairs_of (s.number - 12) (omega arith) (shared-pair s.number s.holds))

  -- 19: the machine's test of the value that it keeps
  pub arms-reflects : Reflects (arms (masked x)) (Arms x)
  arms-reflects =
      likewise pairs-arm arm-pairs
      (or-reflects _ _
      (or-reflects _ _
      (or-reflects _ _
      (or-reflects _ _ (or-reflects _ _ (left-reflects x 17 (omega arith)) (pair 4 (omega arith)))
      (pair 3 (omega arith)))
      (pair 2 (omega arith)))
      (pair 1 (omega arith)))
      (pair 0 (omega arith)))

-- ---- a bit outside

-- a number that is not zero has a bit
bit_in : (most n : ℕ) → n ≤ most → (n ≡ 0 → ⊥) → Some (λ j. Bit j n)
bit_in zero n h some = absurd (some (omega arith))
bit_in (suc most) n h some = go (dec_lt 0 (n % 2)) (bit_in most (n / 2))
  where
    go : Dec (0 < n % 2) → (n / 2 ≤ most → (n / 2 ≡ 0 → ⊥) → Some (λ j. Bit j (n / 2))) → Some (λ j. Bit j n)
    go (yes o) half = record { number = 0; holds = omega arith }
    go (no o) half =
        let s = half (omega arith) (λ z. some (omega arith)) in
        record { number = 1 + s.number; holds = ap (λ y. y % 2) (sym (shr-shr n 1 s.number)) ∙ s.holds }

module _ (x : ℕ) where
  abbrev Outside : Type 0
  Outside = Some (λ k. Bit k x × Not (Bit k csr_bits))

  -- a bit of the upper part
  above : (x / 2 ^ 25 ≡ 0 → ⊥) → Outside
  above some =
      let s = bit_in (x / 2 ^ 25) (x / 2 ^ 25) (omega arith) some in
      let none : csr_bits / 2 ^ (25 + s.number) ≡ 0 = sym (shr-shr csr_bits 25 s.number) ∙ zero-div (2 ^ s.number) in
      let there = ap (λ y. y % 2) (sym (shr-shr x 25 s.number)) ∙ s.holds in
      record { number = 25 + s.number; holds = (there, λ b. omega (arith, none)) }

  -- masking changes a number that has one
  found : (masked x ≡ x → ⊥) → Outside
  found n =
      go (dec_lt 0 (x / 2 ^ 19 % 2)) (dec_lt 0 (x / 2 ^ 20 % 2)) (dec_lt 0 (x / 2 ^ 21 % 2)) (dec_lt 0 (x / 2 ^ 22 % 2))
      (dec_lt 0 (x / 2 ^ 23 % 2))
    where
      at : (k : ℕ) → Bit k x → (Bit k csr_bits → ⊥) → Outside
      at k b o = record { number = k; holds = (b, o) }

      go : Dec (0 < x / 2 ^ 19 % 2) → Dec (0 < x / 2 ^ 20 % 2) → Dec (0 < x / 2 ^ 21 % 2) → Dec (0 < x / 2 ^ 22 % 2)
          → Dec (0 < x / 2 ^ 23 % 2)
          → Outside
      go (yes b) c d f g = at 19 (omega arith) (λ o. omega arith)
      go (no b) (yes c) d f g = at 20 (omega arith) (λ o. omega arith)
      go (no b) (no c) (yes d) f g = at 21 (omega arith) (λ o. omega arith)
      go (no b) (no c) (no d) (yes f) g = at 22 (omega arith) (λ o. omega arith)
      go (no b) (no c) (no d) (no f) (yes g) = at 23 (omega arith) (λ o. omega arith)
      go (no b) (no c) (no d) (no f) (no g) =
          let none : x / 2 ^ 19 ≡ 32 * (x / 2 ^ 24) =
          omega (arith, shr-shr x 19 1, shr-shr x 20 1, shr-shr x 21 1, shr-shr x 22 1, shr-shr x 23 1)
          in
          above (λ z. n (omega arith))

  -- and no other
  module _ (e : masked x ≡ x) where
    -- of the bits from 19 on there is 24 at most
    upper : x / 2 ^ 19 ≡ 32 * (x / 2 ^ 24 % 2)
    upper = omega arith

    even : (j : ℕ) → 32 * (x / 2 ^ 24 % 2) / 2 ^ j % 2 ≡ 0 → Bit (19 + j) x → ⊥
    even j z b = omega (arith, ap (λ y. y % 2) (sym (shr-shr x 19 j) ∙ ap (λ y. y / 2 ^ j) upper))

    middle : (j : ℕ) → j < 6 → Bit (19 + j) x → Bit (19 + j) csr_bits
    middle zero h b = absurd (even 0 (omega arith) b)
    middle (suc zero) h b = absurd (even 1 (omega arith) b)
    middle (suc (suc zero)) h b = absurd (even 2 (omega arith) b)
    middle (suc (suc (suc zero))) h b = absurd (even 3 (omega arith) b)
    middle (suc (suc (suc (suc zero)))) h b = absurd (even 4 (omega arith) b)
    middle (suc (suc (suc (suc (suc zero))))) h b = refl
    middle (suc (suc (suc (suc (suc (suc j)))))) h b = absurd (omega arith)

    inside : (k : ℕ) → Bit k x → Bit k csr_bits
    inside k b = go (dec_lt k 19) (dec_lt k 25)
      where
        go : Dec (k < 19) → Dec (k < 25) → Bit k csr_bits
        go (yes l) d = low-there k l
        go (no l) (yes m) =
            let p : k ≡ 19 + (k - 19) = omega arith in
            rw p (middle (k - 19) (omega arith) (rw p at b))
        go (no l) (no m) =
            let s : 2 ^ 25 ≤ 2 ^ k = pow_mono {i = 25} {j = k} (omega arith) in
            let z : x / 2 ^ k ≡ 0 = div-eq_of_lt (omega arith) in
            absurd (omega arith)

  pub outside-reflects : Reflects (not (eqb (masked x) x)) Outside
  outside-reflects =
      likewise found (λ s e. s.holds.1 (inside e s.number s.holds.0))
      (not-reflects (eqb (masked x) x) (eq-reflects (masked x) x))
