-- A number by its elements: element and build are each other's inverse; a number in two parts; one more element below.
use mathlib.Core.Path.{◌≡◌, refl, sym, ap, ap₂, ◌∙◌}
use Prim.Native.Nat.{ℕ, zero, suc, ◌+◌, ◌-◌, ◌*◌, ◌/◌, ◌%◌, ◌^◌, ◌≤◌, ◌<◌}
use native.Mathlib.Omega.{arith}
use native.Mathlib.Nat.{mod-lt, mod-one, mul-zero, zero-mod, div-eq_of_lt, div-one, mul-le-mul_right, add-mul-div_right, add-mul-mod_self_right, mod-eq_of_lt}
use lib.Arith.{digits_div}
use lib.Pow.{pow_pos, pow-add, shr-shr, mod-pow-add}
use Rattle.vectors.specs.Register.{element, build}

pub element-below : (n v i : ℕ) → element n v i < 2 ^ n
unfolding element
element-below n v i = mod-lt (v / 2 ^ (n * i)) (pow_pos n)

-- one element more
next : (n m : ℕ) → 2 ^ (n * suc m) ≡ 2 ^ n * 2 ^ (n * m)
next n m = ap (λ x. 2 ^ x) (omega arith) ∙ pow-add 2 n (n * m)

pub build-below : (n : ℕ) (f : ℕ → ℕ) → ((i : ℕ) → f i < 2 ^ n) → (m : ℕ) → build n f m < 2 ^ (n * m)
unfolding build
build-below n f below zero = pow_pos (n * zero)
build-below n f below (suc m) = rw next (omega (arith, build-below n f below m, mul-le-mul_right (2 ^ (n * m)) (below m)))

-- two lists of elements, one above the other
pub build-split : (n : ℕ) (f : ℕ → ℕ) (a b : ℕ) → build n f (a + b) ≡ build n f a + build n (λ i. f (a + i)) b * 2 ^ (n * a)
unfolding build
build-split n f a zero = let e : a + 0 ≡ a = omega arith in rw e (omega arith)
build-split n f a (suc b) =
    let e : a + suc b ≡ suc (a + b) = omega arith in
    let power : 2 ^ (n * (a + b)) ≡ 2 ^ (n * b) * 2 ^ (n * a) = ap (λ x. 2 ^ x) (omega arith) ∙ pow-add 2 (n * b) (n * a) in
    rw e (rw (build-split n f a b, power) (omega arith))

pub build-same : (n : ℕ) (f g : ℕ → ℕ) (m : ℕ) → ((i : ℕ) → i < m → f i ≡ g i) → build n f m ≡ build n g m
unfolding build
build-same n f g zero h = refl
build-same n f g (suc m) h =
    ap₂ (λ x y. x + y * 2 ^ (n * m)) (build-same n f g m (λ i l. h i (omega arith))) (h m (omega arith))

-- the elements of a number in two parts, of m elements the lower
module _ (n m low high : ℕ) where
  pub element-low : (i : ℕ) → i < m → element n (low + high * 2 ^ (n * m)) i ≡ element n low i
  unfolding element
  element-low i h =
      let rest = n * (m - suc i) in
      let power : 2 ^ (n * m) ≡ 2 ^ rest * 2 ^ n * 2 ^ (n * i) =
      ap (λ x. 2 ^ (n * x)) (omega arith) ∙ ap (λ x. 2 ^ x) (split (m - suc i) i) ∙ pow-add 2 (rest + n) (n * i)
      ∙ ap (λ x. x * 2 ^ (n * i)) (pow-add 2 rest n) in
      let above : high * 2 ^ (n * m) ≡ high * 2 ^ rest * 2 ^ n * 2 ^ (n * i) = rw power (omega arith) in
      rw (above, add-mul-div_right low (high * 2 ^ rest * 2 ^ n) (pow_pos (n * i)))
      (add-mul-mod_self_right (low / 2 ^ (n * i)) (high * 2 ^ rest) (2 ^ n))
    where
      split : (a b : ℕ) → n * (a + 1 + b) ≡ n * a + n + n * b
      split a b = omega arith

  pub element-high : low < 2 ^ (n * m) → (i : ℕ) → element n (low + high * 2 ^ (n * m)) (m + i) ≡ element n high i
  unfolding element
  element-high h i =
      let place : n * (m + i) ≡ n * m + n * i = omega arith in
      let whole : (low + high * 2 ^ (n * m)) / 2 ^ (n * m) ≡ high =
      ap (λ x. x / 2 ^ (n * m)) (omega arith) ∙ digits_div high h in
      rw (place, ← shr-shr (low + high * 2 ^ (n * m)) (n * m) (n * i), whole)

-- a number with one more element below its own
module _ (n out : ℕ) {e : ℕ} (fits : e < 2 ^ n) where
  lowest : element n (out * 2 ^ n + e) 0 ≡ e
  unfolding element
  lowest =
      let none : n * 0 ≡ 0 = omega arith in
      let order : out * 2 ^ n + e ≡ e + out * 2 ^ n = omega arith in
      rw (none, div-one (out * 2 ^ n + e), order) (add-mul-mod_self_right e out (2 ^ n) ∙ mod-eq_of_lt fits)

  above : (j : ℕ) → element n (out * 2 ^ n + e) (suc j) ≡ element n out j
  unfolding element
  above j =
      let place : n * suc j ≡ n + n * j = omega arith in
      rw (place, ← shr-shr (out * 2 ^ n + e) n (n * j), digits_div out fits)

  -- with room for both, and each element what it has to be
  module _ {m i : ℕ} (left : 0 < i) (within : i ≤ m) where
    pub room-more : out < 2 ^ (n * (m - i)) → out * 2 ^ n + e < 2 ^ (n * (m - (i - 1)))
    room-more room =
        let more : m - (i - 1) ≡ suc (m - i) = omega arith in
        rw (more, next n (m - i))
        (omega (arith, mul-le-mul_right {m = suc out} {n = 2 ^ (n * (m - i))} (2 ^ n) (omega arith)))

    pub elements-more : (P : ℕ → ℕ → Type 0) → P (i - 1) e → ((j : ℕ) → j < m - i → P (i + j) (element n out j))
        → (j : ℕ) → j < m - (i - 1) → P (i - 1 + j) (element n (out * 2 ^ n + e) j)
    elements-more P here rest zero l = let place : i - 1 + 0 ≡ i - 1 = omega arith in rw (place, lowest) here
    elements-more P here rest (suc j) l =
        let place : i - 1 + suc j ≡ i + j = omega arith in
        rw (place, above j) (rest j (omega arith))

-- past the end of a number its elements are 0
pub element-beyond : (n v i : ℕ) → v < 2 ^ (n * i) → element n v i ≡ 0
unfolding element
element-beyond n v i h = ap (λ x. x % 2 ^ n) (div-eq_of_lt h) ∙ zero-mod (2 ^ n)

-- the number with the elements of v is v
pub build-element : (n v m : ℕ) → build n (element n v) m ≡ v % 2 ^ (n * m)
unfolding element build
build-element n v zero = sym (ap (λ x. v % 2 ^ x) (mul-zero n) ∙ mod-one v)
build-element n v (suc m) =
    let place : n * suc m ≡ n + n * m = omega arith in
    rw (place, mod-pow-add v n (n * m)) (omega (arith, build-element n v m))

-- numbers whose first m elements are the same are the same, in as many bits
pub same-elements : (n v u m : ℕ) → ((i : ℕ) → i < m → element n v i ≡ element n u i) → v % 2 ^ (n * m) ≡ u % 2 ^ (n * m)
same-elements n v u m h = sym (build-element n v m) ∙ build-same n (element n v) (element n u) m h ∙ build-element n u m

-- element i of what was built is f i
module _ (n : ℕ) (f : ℕ → ℕ) (below : (i : ℕ) → f i < 2 ^ n) where
  element-last : (i : ℕ) → element n (build n f (suc i)) i ≡ f i
  unfolding element build
  element-last i =
      let top : (build n f i + f i * 2 ^ (n * i)) / 2 ^ (n * i) ≡ f i =
      ap (λ x. x / 2 ^ (n * i)) (omega arith) ∙ digits_div (f i) (build-below n f below i) in
      ap (λ x. x % 2 ^ n) top ∙ mod-eq_of_lt (below i)

  pub element-build : (m i : ℕ) → i < m → element n (build n f m) i ≡ f i
  element-build m i h =
      let e : m ≡ suc i + (m - suc i) = omega arith in
      ap (λ x. element n (build n f x) i) e
      ∙ ap (λ x. element n x i) (build-split n f (suc i) (m - suc i))
      ∙ element-low n (suc i) (build n f (suc i)) (build n (λ j. f (suc i + j)) (m - suc i)) i (omega arith)
      ∙ element-last i
