-- What the operations on words make of elements. Bitwise operations go element by element; sums, differences and
-- products with a number do wherever no element overflows: a word is the sum of its elements at their places, and that
-- is linear.
use mathlib.Core.Path.{◌≡◌, refl, sym, ap, ap₂, ◌∙◌}
use Prim.Native.Nat.{ℕ, zero, suc, ◌+◌, ◌-◌, ◌*◌, ◌/◌, ◌%◌, ◌^◌, ◌≤◌, ◌<◌}
use native.Mathlib.Omega.{arith}
use native.Mathlib.Nat.{mod-lt, mod-eq_of_lt}
use lib.Bits.{bit_and, bit_or, bit_xor}
use lib.Bits.{and_shr, or_shr, xor_shr, and_mod, or_mod, xor_mod, and_lt, or_lt, xor_lt, and_mask}
use lib.Pow.{pow_pos, shr-shr, shr_le, shr_mod, field, mod-mod-pow, ones_lt, ones_split}
use lib.Pow as pow
use Rattle.vectors.specs.Register.{element, build}
use Rattle.vectors.proofs.ElementLaws.{element-below, build-below, build-same, build-element, element-build}
use Rattle.vectors.proofs.Sizes.{Shares, inside}
use Rattle.parallel.specs.Lanes.{Lanes}

build-add : (n : ℕ) (f g : ℕ → ℕ) (m : ℕ) → build n f m + build n g m ≡ build n (λ i. f i + g i) m
unfolding build
build-add n f g zero = refl
build-add n f g (suc m) = omega (arith, build-add n f g m)

build-scale : (n : ℕ) (f : ℕ → ℕ) (c m : ℕ) → build n f m * c ≡ build n (λ i. f i * c) m
unfolding build
build-scale n f c zero = omega arith
build-scale n f c (suc m) = omega (arith, build-scale n f c m)

module _ {n : ℕ} (share : Shares n) where
  -- a word has its elements
  pub own : (x : ℕ) → x < 2 ^ 64 → Lanes n x (element n x)
  own x h = record { below = h; at = λ i l. refl }

  pub same-lanes : {x : ℕ} {f g : ℕ → ℕ} → Lanes n x f → ((i : ℕ) → i < 64 / n → f i ≡ g i) → Lanes n x g
  same-lanes a e = record { below = a.below; at = λ i l. a.at i l ∙ e i l }

  pub fits : {x : ℕ} {f : ℕ → ℕ} → Lanes n x f → (i : ℕ) → i < 64 / n → f i < 2 ^ n
  fits {x} a i l = omega (arith, a.at i l, element-below n x i)

  -- and is the number built of them
  pub built : {x : ℕ} {f : ℕ → ℕ} → Lanes n x f → x ≡ build n f (64 / n)
  built {x} {f} a =
      sym (mod-eq_of_lt a.below)
      ∙ (rw share.word at (sym (build-element n x (64 / n))))
      ∙ build-same n (element n x) f (64 / n) a.at

  of-built : (f : ℕ → ℕ) → ((i : ℕ) → i < 64 / n → f i < 2 ^ n) → Lanes n (build n f (64 / n)) f
  of-built f room =
      let e : build n f (64 / n) ≡ build n (λ i. f i % 2 ^ n) (64 / n) =
      build-same n f (λ i. f i % 2 ^ n) (64 / n) (λ i l. sym (mod-eq_of_lt (room i l))) in
      rw e (record {
        below = rw share.word at (build-below n (λ i. f i % 2 ^ n) (λ i. mod-lt (f i) (pow_pos n)) (64 / n));
        at = λ i l. element-build n (λ i. f i % 2 ^ n) (λ i. mod-lt (f i) (pow_pos n)) (64 / n) i l
            ∙ mod-eq_of_lt (room i l);
      })

  pub made : {x : ℕ} (f : ℕ → ℕ) → x ≡ build n f (64 / n) → ((i : ℕ) → i < 64 / n → f i < 2 ^ n) → Lanes n x f
  made f e room = rw e (of-built f room)

  module _ {x y : ℕ} {f g : ℕ → ℕ} (a : Lanes n x f) (b : Lanes n y g) where
    pub sum-lanes : ((i : ℕ) → i < 64 / n → f i + g i < 2 ^ n) → Lanes n (x + y) (λ i. f i + g i)
    sum-lanes room = made (λ i. f i + g i) (ap₂ (λ p q. p + q) (built a) (built b) ∙ build-add n f g (64 / n)) room

    whole_again : ((i : ℕ) → i < 64 / n → g i ≤ f i) → build n (λ i. f i - g i) (64 / n) + y ≡ x
    whole_again less =
        ap (λ q. build n (λ i. f i - g i) (64 / n) + q) (built b)
        ∙ build-add n (λ i. f i - g i) g (64 / n)
        ∙ build-same n (λ i. f i - g i + g i) f (64 / n) (λ i l. omega (arith, less i l))
        ∙ sym (built a)

    pub minus-fits : ((i : ℕ) → i < 64 / n → g i ≤ f i) → y ≤ x
    minus-fits less = omega (arith, whole_again less)

    pub minus-lanes : ((i : ℕ) → i < 64 / n → g i ≤ f i) → Lanes n (x - y) (λ i. f i - g i)
    minus-lanes less = made (λ i. f i - g i) (omega (arith, whole_again less)) (λ i l. omega (arith, fits a i l))

  pub times-lanes : {x : ℕ} {f : ℕ → ℕ} → Lanes n x f → (c : ℕ) → ((i : ℕ) → i < 64 / n → f i * c < 2 ^ n)
      → Lanes n (x * c) (λ i. f i * c)
  times-lanes {f = f} a c room = made (λ i. f i * c) (ap (λ p. p * c) (built a) ∙ build-scale n f c (64 / n)) room

  -- an operation that goes bit by bit goes element by element
  module _ (op : ℕ → ℕ → ℕ) (shr : (a b k : ℕ) → op a b / 2 ^ k ≡ op (a / 2 ^ k) (b / 2 ^ k))
      (rem : (a b k : ℕ) → op a b % 2 ^ k ≡ op (a % 2 ^ k) (b % 2 ^ k))
      (bound : (k a b : ℕ) → a < 2 ^ k → b < 2 ^ k → op a b < 2 ^ k) where
    op-element : (x y i : ℕ) → element n (op x y) i ≡ op (element n x i) (element n y i)
    unfolding element
    op-element x y i = ap (λ z. z % 2 ^ n) (shr x y (n * i)) ∙ rem (x / 2 ^ (n * i)) (y / 2 ^ (n * i)) n

    op-lanes : {x y : ℕ} {f g : ℕ → ℕ} → Lanes n x f → Lanes n y g → Lanes n (op x y) (λ i. op (f i) (g i))
    op-lanes {x} {y} a b = record {
      below = bound 64 x y a.below b.below;
      at = λ i l. op-element x y i ∙ ap₂ op (a.at i l) (b.at i l);
    }

  pub and-lanes : {x y : ℕ} {f g : ℕ → ℕ} → Lanes n x f → Lanes n y g → Lanes n (bit_and x y) (λ i. bit_and (f i) (g i))
  and-lanes a b = op-lanes bit_and and_shr and_mod and_lt a b

  pub or-lanes : {x y : ℕ} {f g : ℕ → ℕ} → Lanes n x f → Lanes n y g → Lanes n (bit_or x y) (λ i. bit_or (f i) (g i))
  or-lanes a b = op-lanes bit_or or_shr or_mod or_lt a b

  pub xor-lanes : {x y : ℕ} {f g : ℕ → ℕ} → Lanes n x f → Lanes n y g → Lanes n (bit_xor x y) (λ i. bit_xor (f i) (g i))
  xor-lanes a b = op-lanes bit_xor xor_shr xor_mod xor_lt a b

  -- a field of every element: a shift to the right, with a mask that takes off the rest
  narrow : (x j k r i : ℕ) → n ≡ r + j + k → element n (x / 2 ^ k) i % 2 ^ j ≡ element n x i / 2 ^ k % 2 ^ j
  unfolding element
  narrow x j k r i e =
      let order : x / 2 ^ k / 2 ^ (n * i) ≡ x / 2 ^ (n * i) / 2 ^ k =
      shr-shr x k (n * i) ∙ ap (λ p. x / 2 ^ p) (omega arith) ∙ sym (shr-shr x (n * i) k) in
      let power : 2 ^ n ≡ 2 ^ (r + k + j) = ap (λ p. 2 ^ p) (omega arith) in
      let power2 : 2 ^ n ≡ 2 ^ (r + j + k) = ap (λ p. 2 ^ p) e in
      ap (λ p. x / 2 ^ k / 2 ^ (n * i) % p % 2 ^ j) power
      ∙ mod-mod-pow (x / 2 ^ k / 2 ^ (n * i)) (r + k) j
      ∙ ap (λ z. z % 2 ^ j) order
      ∙ sym (ap (λ p. x / 2 ^ (n * i) % p / 2 ^ k % 2 ^ j) power2
      ∙ ap (λ z. z % 2 ^ j) (field (x / 2 ^ (n * i)) (r + j) k) ∙ mod-mod-pow (x / 2 ^ (n * i) / 2 ^ k) r j)

  pub field-lanes : {x y : ℕ} {f : ℕ → ℕ} → Lanes n x f → (j k : ℕ) → j + k ≤ n → Lanes n y (λ _. 2 ^ j - 1)
      → Lanes n (bit_and (x / 2 ^ k) y) (λ i. f i / 2 ^ k % 2 ^ j)
  field-lanes {x} {y} {f} a j k e b =
      let low : x / 2 ^ k < 2 ^ 64 = omega (arith, shr_le x k, a.below) in
      same-lanes (and-lanes (own (x / 2 ^ k) low) b)
      (λ i l. and_mask (element n (x / 2 ^ k) i) j ∙ narrow x j k (n - (j + k)) i (omega arith)
      ∙ ap (λ z. z / 2 ^ k % 2 ^ j) (a.at i l))

  pub shr_lanes : {x y : ℕ} {f : ℕ → ℕ} → Lanes n x f → (j k : ℕ) → n ≡ j + k → Lanes n y (λ _. 2 ^ j - 1)
      → Lanes n (bit_and (x / 2 ^ k) y) (λ i. f i / 2 ^ k)
  shr_lanes {f = f} a j k e b =
      same-lanes (field-lanes a j k (omega arith) b) (λ i l. shr_mod j k (rw e at (fits a i l)))

  -- every element of a word of ones is of ones
  ones-at : (i rest : ℕ) → 64 ≡ rest + n + n * i → element n (2 ^ 64 - 1) i ≡ 2 ^ n - 1
  unfolding element
  ones-at i rest e =
      ap (λ p. (2 ^ p - 1) / 2 ^ (n * i) % 2 ^ n) e
      ∙ ap (λ z. z / 2 ^ (n * i) % 2 ^ n) (ones_split (rest + n) (n * i))
      ∙ ap (λ z. z % 2 ^ n) (pow.high (2 ^ (rest + n) - 1) (n * i) (ones_lt (n * i)))
      ∙ ap (λ z. z % 2 ^ n) (ones_split rest n)
      ∙ pow.low (2 ^ rest - 1) n (ones_lt n)

  pub ones-lanes : Lanes n (2 ^ 64 - 1) (λ _. 2 ^ n - 1)
  ones-lanes =
      record { below = ones_lt 64; at = λ i l. ones-at i (64 - (n * i + n)) (let h = inside share i l in omega arith) }

-- a word is told by its elements
pub one_word : {n : ℕ} → Shares n → {x y : ℕ} {f : ℕ → ℕ} → Lanes n x f → Lanes n y f → x ≡ y
one_word share a b = built share a ∙ sym (built share b)
