-- The bits that arm a trap: the machine's sum of them has each bit that is shared, and no other; and one number has
-- just these. Assumes nothing.
use mathlib.Core.Path.{◌≡◌, refl, sym, ap, ◌∙◌}
use mathlib.Core.Bool.{Bool, true, false, cond, ◌&&◌}
use Prim.Native.Nat.{ℕ, zero, suc, ◌+◌, ◌-◌, ◌*◌, ◌/◌, ◌%◌, ◌^◌, ◌≤◌, ◌<◌}
use native.Mathlib.Decide.{dec_lt, ℕ_discrete}
use native.Mathlib.Nat.{one-mul, zero-div}
use native.Mathlib.Omega.{arith}
use Rattle.state.specs.Csr.{masked, bit, arming}
use Rattle.state.specs.Csr as csr
use Rattle.vectors.specs.Register.{element}
use Rattle.vectors.proofs.ElementLaws.{same-elements}
use Rattle.demands.specs.AtCounter.{Left, SharedBit, TrapBits, bit17, bits}
use Rattle.demands.specs.Tables.{Bit}
use Rattle.demands.proofs.CsrBits.{pair, shares, shared-pair, left-reflects, low_bit}
use Rattle.demands.proofs.Reflects.{Reflects}

-- ---- five bits at 16..12

module _ (f : ℕ → ℕ) (small : (j : ℕ) → f j ≤ 1) where
  abbrev five : ℕ
  five = 2 ^ 16 * f 4 + 2 ^ 15 * f 3 + 2 ^ 14 * f 2 + 2 ^ 13 * f 1 + 2 ^ 12 * f 0

  five-below : five < 2 ^ 17
  five-below = omega (arith, small 4, small 3, small 2, small 1, small 0)

  -- bit 12 + j is the j-th, and those below are clear
  five-at : (j : ℕ) → j < 5 → five / 2 ^ (12 + j) % 2 ≡ f j
  five-at zero h = omega (arith, small 4, small 3, small 2, small 1, small 0)
  five-at (suc zero) h = omega (arith, small 4, small 3, small 2, small 1, small 0)
  five-at (suc (suc zero)) h = omega (arith, small 4, small 3, small 2, small 1, small 0)
  five-at (suc (suc (suc zero))) h = omega (arith, small 4, small 3, small 2, small 1, small 0)
  five-at (suc (suc (suc (suc zero)))) h = omega (arith, small 4, small 3, small 2, small 1, small 0)
  five-at (suc (suc (suc (suc (suc j))))) h = absurd (omega arith)

  five-low : (k : ℕ) → k < 12 → five / 2 ^ k % 2 ≡ 0
  five-low k h =
      let none : five % 2 ^ 12 ≡ 0 = omega arith in
      sym (low_bit 12 five k h) ∙ ap (λ n. n / 2 ^ k % 2) none ∙ ap (λ n. n % 2) (zero-div (2 ^ k))

-- ---- the sum of the shared bits

-- 1 where a test is true
abbrev one : Bool → ℕ
one b = cond b 1 0

one-small : (b : Bool) → one b ≤ 1
one-small true = omega arith
one-small false = omega arith

one-true : (b : Bool) → one b ≡ 1 → b ≡ true
one-true true h = refl
one-true false h = absurd (omega arith)

true-one : {P : Type 0} (b : Bool) → Reflects b P → P → one b ≡ 1
true-one true r p = refl
true-one false r p = absurd (r.no refl p)

weighed : (b : Bool) (n : ℕ) → cond b n 0 ≡ n * one b
weighed true n = omega arith
weighed false n = omega arith

module _ (x : ℕ) where
  abbrev test : ℕ → Bool
  test j = bit (12 + j) (masked x) && bit (7 + j) (masked x)

  abbrev ones : ℕ → ℕ
  ones j = one (test j)

  small : (j : ℕ) → ones j ≤ 1
  small j = one-small (test j)

  abbrev sum : ℕ
  sum = csr.shared 11 (masked x) + csr.shared 10 (masked x) + csr.shared 9 (masked x) + csr.shared 8 (masked x)
      + csr.shared 7 (masked x)

  sum-five : sum ≡ five ones small
  sum-five = λ k. weighed (test 4) (2 ^ 16) k + weighed (test 3) (2 ^ 15) k + weighed (test 2) (2 ^ 14) k
      + weighed (test 1) (2 ^ 13) k + weighed (test 0) (2 ^ 12) k

  only : (k : ℕ) → k < 17 → Bit k (five ones small) → SharedBit x k
  only k h b = go (dec_lt k 12)
    where
      go : Dec (k < 12) → SharedBit x k
      go (yes l) = absurd (omega (arith, five-low ones small k l))
      go (no l) =
          let e : 12 + (k - 12) ≡ k = omega arith in
          let i : k - 12 < 5 = omega arith in
          let is : ones (k - 12) ≡ 1 = sym (five-at ones small (k - 12) i) ∙ rw e b in
          shares x k (omega arith) h ((pair x (k - 12) i).yes (one-true (test (k - 12)) is))

  every : (k : ℕ) → SharedBit x k → Bit k (five ones small)
  every k s =
      let l = s.0 in
      let h = s.1 in
      let e : 12 + (k - 12) ≡ k = omega arith in
      let i : k - 12 < 5 = omega arith in
      rw e at (five-at ones small (k - 12) i ∙ true-one (test (k - 12)) (pair x (k - 12) i) (shared-pair x k s))

  -- the bits of the machine's stop
  pub arming-is : TrapBits x (arming (masked x))
  arming-is = go (bit 17 (masked x)) (left-reflects x 17 (omega arith))
    where
      go : (b : Bool) → Reflects b (Left x 17) → TrapBits x (cond b (2 ^ 17) sum)
      go true r = bit17 (r.yes refl) refl
      go false r = rw sum-five (bits (r.no refl) (five-below ones small) only every)

-- ---- one number

same_bit : (x y k : ℕ) → (Bit k x → Bit k y) → (Bit k y → Bit k x) → x / 2 ^ k % 2 ≡ y / 2 ^ k % 2
same_bit x y k f g = go (ℕ_discrete (x / 2 ^ k % 2) 1) (ℕ_discrete (y / 2 ^ k % 2) 1)
  where
    go : Dec (Bit k x) → Dec (Bit k y) → x / 2 ^ k % 2 ≡ y / 2 ^ k % 2
    go (yes b) d = b ∙ sym (f b)
    go (no n) (yes c) = absurd (n (g c))
    go (no n) (no q) = omega arith

-- a bit is an element of one bit
element-bit : (x k : ℕ) → element 1 x k ≡ x / 2 ^ k % 2
unfolding element
element-bit x k = ap (λ i. x / 2 ^ i % 2) (one-mul k)

pub one-bits : (v x y : ℕ) → TrapBits v x → TrapBits v y → x ≡ y
one-bits v x y (bit17 l e) (bit17 k f) = e ∙ sym f
one-bits v x y (bit17 l e) (bits n h f g) = absurd (n l)
one-bits v x y (bits n h f g) (bit17 l e) = absurd (n l)
one-bits v x y (bits n h f g) (bits n' h' f' g') =
    let same_bits : (k : ℕ) → k < 17 → x / 2 ^ k % 2 ≡ y / 2 ^ k % 2 =
    λ k l. same_bit x y k (λ b. g' k (f k l b)) (λ b. g k (f' k l b))
    in
    let same = same-elements 1 x y 17 (λ k l. element-bit x k ∙ same_bits k l ∙ sym (element-bit y k)) in
    omega (arith, same)
