-- Elements that change their places: an element of an element, two elements as one of twice the width, and runs of
-- elements in the low half of a block.
use mathlib.Core.Path.{◌≡◌, refl, sym, ap, ap₂, ◌∙◌}
use Prim.Native.Nat.{ℕ, zero, suc, ◌+◌, ◌-◌, ◌*◌, ◌/◌, ◌%◌, ◌^◌, ◌≤◌, ◌<◌}
use native.Mathlib.Omega.{arith}
use native.Mathlib.Nat.{mod-lt, mod-eq_of_lt, mul-le-mul_left, mul-le-mul_right, div-one}
use lib.Bits.{bit_and, and_mask}
use lib.Dec.{lit<, lit≤, eqb}
use mathlib.Core.Bool.{cond}
use lib.Pow.{pow_pos, pow-add, pow_mono}
use lib.Pow as pow
use Rattle.element.proofs.Diff.{cond_below}
use Rattle.isa.specs.declared.Width.{Width}
use Rattle.isa.specs.declared.Width.TheVariants.{B, H, W, D}
use Rattle.isa.specs.Widths.{bits}
use Rattle.vectors.specs.Register.{element, build}
use Rattle.vectors.proofs.ElementLaws.{element-below, build-below, build-same, build-split, build-element, element-low}
use Rattle.vectors.proofs.Sizes.{Shares, shares}
use Rattle.parallel.specs.Lanes.{Each1, Lanes}
use Rattle.parallel.proofs.Words.{own, fits, same-lanes, built, made, sum-lanes, times-lanes, and-lanes, field-lanes}

-- an element of an element
pub element-in : (n m v a b : ℕ) → b < m → element n (element (n * m) v a) b ≡ element n v (a * m + b)
unfolding element
element-in n m v a b l =
    let y = v / 2 ^ (n * m * a) in
    let whole : y % 2 ^ (n * m) + y / 2 ^ (n * m) * 2 ^ (n * m) ≡ y = omega (arith, pow.split y (n * m)) in
    sym (element-low n m (y % 2 ^ (n * m)) (y / 2 ^ (n * m)) b l)
    ∙ ap (λ z. z / 2 ^ (n * b) % 2 ^ n) whole
    ∙ ap (λ z. z % 2 ^ n) (pow.shr-shr v (n * m * a) (n * b) ∙ ap (λ z. v / 2 ^ z) (omega arith))

-- two elements as one
abbrev pairs : ℕ → (ℕ → ℕ) → ℕ → ℕ
pairs n f j = f (j * 2) + f (suc (j * 2)) * 2 ^ n

build-pairs : (n : ℕ) (f : ℕ → ℕ) (m : ℕ) → build (n + n) (pairs n f) m ≡ build n f (m * 2)
unfolding build
build-pairs n f zero = refl
build-pairs n f (suc m) =
    let e : suc m * 2 ≡ suc (suc (m * 2)) = omega arith in
    let p : 2 ^ ((n + n) * m) ≡ 2 ^ (n * (m * 2)) = ap (λ x. 2 ^ x) (omega arith) in
    let q : 2 ^ (n * suc (m * 2)) ≡ 2 ^ n * 2 ^ (n * (m * 2)) =
    ap (λ x. 2 ^ x) (omega arith) ∙ pow-add 2 n (n * (m * 2)) in
    rw (e, p) (rw (q, build-pairs n f m) (omega arith))

-- a width that another has twice
pub record Doubles (n : ℕ) : Type 0 where
  pub one : Shares n
  pub two : Shares (n + n)
  pub count : 64 / n ≡ 64 / (n + n) * 2
  pub half : 64 / n ≡ 32 / n + 32 / n
  pub part : n * (32 / n) ≡ 32

pub doubles : (w : Width) → bits w < 64 → Doubles (bits w)
doubles B h = record { one = shares B; two = shares H; count = refl; half = refl; part = refl }
doubles H h = record { one = shares H; two = shares W; count = refl; half = refl; part = refl }
doubles W h = record { one = shares W; two = shares D; count = refl; half = refl; part = refl }
doubles D h = absurd (omega arith)

pub two-below : (n : ℕ) {x y : ℕ} → x < 2 ^ n → y < 2 ^ n → x + y * 2 ^ n < 2 ^ (n + n)
two-below n {x} {y} hx hy = omega (arith, pow-add 2 n n, mul-le-mul_right {m = suc y} {n = 2 ^ n} (2 ^ n) hy)

module _ {n : ℕ} (d : Doubles n) where
  pub doubled : {x : ℕ} (f : ℕ → ℕ) → Lanes n x f → Lanes (n + n) x (pairs n f)
  doubled f a =
      made d.two (pairs n f)
      (built d.one a ∙ ap (build n f) d.count ∙ sym (build-pairs n f (64 / (n + n))))
      (λ j l. two-below n (fits d.one a (j * 2) (omega (arith, d.count)))
      (fits d.one a (suc (j * 2)) (omega (arith, d.count))))

  parted : {x : ℕ} (f : ℕ → ℕ) → Lanes (n + n) x (pairs n f) → ((i : ℕ) → i < 64 / n → f i < 2 ^ n) → Lanes n x f
  parted f a room =
      made d.one f (built d.two a ∙ build-pairs n f (64 / (n + n)) ∙ sym (ap (build n f) d.count)) room

-- m elements from place j * m on
abbrev pub run : ℕ → ℕ → (ℕ → ℕ) → ℕ → ℕ
run n m g j = build n (λ i. g (j * m + i)) m

module _ (n m : ℕ) (g : ℕ → ℕ) (room : (i : ℕ) → g i < 2 ^ n) where
  pub run-below : (j : ℕ) → run n m g j < 2 ^ (n * m)
  run-below j = build-below n (λ i. g (j * m + i)) (λ i. room (j * m + i)) m

  pub run_join : (j : ℕ) → run n (m + m) g j ≡ run n m g (j * 2) + run n m g (suc (j * 2)) * 2 ^ (n * m)
  run_join j =
      build-split n (λ i. g (j * (m + m) + i)) m m
      ∙ ap₂ (λ x y. x + y * 2 ^ (n * m))
      (build-same n (λ i. g (j * (m + m) + i)) (λ i. g (j * 2 * m + i)) m (λ i l. ap g (omega arith)))
      (build-same n (λ i. g (j * (m + m) + (m + i))) (λ i. g (suc (j * 2) * m + i)) m (λ i l. ap g (omega arith)))

-- the low q bits of a number, and the q bits at `from` put at `to`
abbrev two_fields : ℕ → ℕ → ℕ → ℕ → ℕ
two_fields q from to a = a % 2 ^ q + a / 2 ^ from % 2 ^ q * 2 ^ to

-- two quarters of an element, apart and together
module _ (q : ℕ) {a c : ℕ} (ha : a < 2 ^ q) (hc : c < 2 ^ q) where
  push-lane : {b : ℕ} → b ≡ a + c * 2 ^ (q + q) → two_fields q (q + q) q b ≡ a + c * 2 ^ q
  push-lane {b} e =
      let low : b ≡ c * 2 ^ q * 2 ^ q + a = e ∙ rw (pow-add 2 q q) (omega arith) in
      let high : b ≡ c * 2 ^ (q + q) + a = e ∙ omega arith in
      let more : q ≤ q + q = omega arith in
      let wide : a < 2 ^ (q + q) = omega (arith, pow_mono more) in
      ap₂ (λ x y. x + y * 2 ^ q)
      (ap (λ z. z % 2 ^ q) low ∙ pow.low (c * 2 ^ q) q ha)
      (ap (λ z. z / 2 ^ (q + q) % 2 ^ q) high ∙ ap (λ z. z % 2 ^ q) (pow.high c (q + q) wide) ∙ mod-eq_of_lt hc)

  draw-lane : {b : ℕ} → b ≡ a + c * 2 ^ q → two_fields q q (q + q) b ≡ a + c * 2 ^ (q + q)
  draw-lane {b} e =
      let low : b ≡ c * 2 ^ q + a = e ∙ omega arith in
      ap₂ (λ x y. x + y * 2 ^ (q + q))
      (ap (λ z. z % 2 ^ q) low ∙ pow.low c q ha)
      (ap (λ z. z / 2 ^ q % 2 ^ q) low ∙ ap (λ z. z % 2 ^ q) (pow.high c q ha) ∙ mod-eq_of_lt hc)

-- runs of m elements in the low halves of their blocks become runs of twice as many, and back
module _ (n m : ℕ) (g : ℕ → ℕ) (room : (i : ℕ) → g i < 2 ^ n) (d : Doubles (n * m + n * m)) {x r : ℕ} where
  pub pushed : Lanes (n * m + n * m) x (run n m g)
      → Each1 (n * m + n * m + (n * m + n * m)) r (two_fields (n * m) (n * m + n * m) (n * m)) x
      → Lanes (n * m + n * m + (n * m + n * m)) r (run n (m + m) g)
  pushed a b = same-lanes d.two b
      (λ j l. push-lane (n * m) (run-below n m g room (j * 2)) (run-below n m g room (suc (j * 2)))
      ((doubled d (run n m g) a).at j l) ∙ sym (run_join n m g room j))

  pub drawn : Lanes (n * m + n * m + (n * m + n * m)) x (run n (m + m) g)
      → Each1 (n * m + n * m + (n * m + n * m)) r (two_fields (n * m) (n * m) (n * m + n * m)) x
      → Lanes (n * m + n * m) r (run n m g)
  drawn a b = parted d (run n m g)
      (same-lanes d.two b
      (λ j l. draw-lane (n * m) (run-below n m g room (j * 2)) (run-below n m g room (suc (j * 2)))
      (a.at j l ∙ run_join n m g room j)))
      (λ i l. let more : n * m ≤ n * m + n * m = omega arith in omega (arith, run-below n m g room i, pow_mono more))

-- a width and its quarter
pub record Quarter (n : ℕ) : Type 0 where
  pub some : 0 < n / 4
  pub four : n / 4 * 4 ≡ n
  pub less : 2 ^ (n / 4) < 2 ^ n

pub quarter-fits : (w : Width) → Quarter (bits w)
quarter-fits B = record { some = lit< tt; four = refl; less = lit< tt }
quarter-fits H = record { some = lit< tt; four = refl; less = lit< tt }
quarter-fits W = record { some = lit< tt; four = refl; less = lit< tt }
quarter-fits D = record { some = lit< tt; four = refl; less = lit< tt }

-- with a mask of quarters: one field of every element moved
module _ (w : Width) (x : ℕ) {y : ℕ} (from to : ℕ) (hx : x < 2 ^ 64)
    (mask : Lanes (bits w) y (λ _. 2 ^ (bits w / 4) - 1))
    (out : bits w / 4 + from ≤ bits w) (into : bits w / 4 + to ≤ bits w) where
  up-below : (z : ℕ) → z % 2 ^ (bits w / 4) * 2 ^ to < 2 ^ bits w
  up-below z = omega (arith, pow.shl_lt (bits w / 4) to (mod-lt z (pow_pos (bits w / 4))), pow_mono into)

  pub up-lanes : Each1 (bits w) (bit_and (x / 2 ^ from) y * 2 ^ to) (λ a. a / 2 ^ from % 2 ^ (bits w / 4) * 2 ^ to) x
  up-lanes =
      times-lanes (shares w) (field-lanes (shares w) (own (shares w) x hx) (bits w / 4) from out mask) (2 ^ to)
      (λ i l. up-below (element (bits w) x i / 2 ^ from))

  -- and the lowest kept
  module _ (over : bits w / 4 ≤ to) where
    both_below : (u z : ℕ) → u % 2 ^ (bits w / 4) + z % 2 ^ (bits w / 4) * 2 ^ to < 2 ^ bits w
    both_below u z =
        omega (
          arith,
          mod-lt u (pow_pos (bits w / 4)),
          pow_mono over,
          pow_mono into,
          pow-add 2 (bits w / 4) to,
          mul-le-mul_right {m = suc (z % 2 ^ (bits w / 4))} {n = 2 ^ (bits w / 4)} (2 ^ to)
              (mod-lt z (pow_pos (bits w / 4))),
        )

    pub moved-lanes : Each1 (bits w) (bit_and x y + bit_and (x / 2 ^ from) y * 2 ^ to) (two_fields (bits w / 4) from to) x
    moved-lanes =
        sum-lanes (shares w)
        (same-lanes (shares w) (and-lanes (shares w) (own (shares w) x hx) mask)
        (λ i l. and_mask (element (bits w) x i) (bits w / 4)))
        up-lanes (λ i l. both_below (element (bits w) x i) (element (bits w) x i / 2 ^ from))

-- the even elements are the low halves of elements of twice the width
pub even-part : {n : ℕ} → Doubles n → (x : ℕ) → x < 2 ^ 64 → (j : ℕ) → j < 64 / (n + n)
    → element (n + n) x j % 2 ^ n ≡ element n x (j * 2)
even-part {n} d x h j l =
    let all : element (n + n) x j ≡ element n x (suc (j * 2)) * 2 ^ n + element n x (j * 2) =
    (doubled d (element n x) (own d.one x h)).at j l ∙ omega arith in
    ap (λ z. z % 2 ^ n) all ∙ pow.low (element n x (suc (j * 2))) n (element-below n x (j * 2))

-- a shift by whole elements
pub element-shift : (n x o i : ℕ) → element n (x / 2 ^ (n * o)) i ≡ element n x (i + o)
unfolding element
element-shift n x o i = ap (λ z. z % 2 ^ n) (pow.shr-shr x (n * o) (n * i) ∙ ap (λ z. x / 2 ^ z) (omega arith))

-- one run of one element; a word that is one run
pub run-one : (n : ℕ) (g : ℕ → ℕ) (j : ℕ) → run n 1 g j ≡ g j
unfolding build
run-one n g j =
    let place : j * 1 + 0 ≡ j = omega arith in
    let none : n * 0 ≡ 0 = omega arith in
    rw (place, none) (omega arith)

pub run-first : (n m : ℕ) (g : ℕ → ℕ) → run n m g 0 ≡ build n g m
run-first n m g = build-same n (λ i. g (0 * m + i)) g m (λ i l. ap g (omega arith))

pub of-run : {r : ℕ} (n m : ℕ) (g : ℕ → ℕ) → Lanes 64 r (run n m g) → r ≡ build n g m
unfolding build
of-run n m g a = built (shares D) a ∙ omega (arith, run-first n m g)

pub as-run : (x n m : ℕ) (g : ℕ → ℕ) → x < 2 ^ 64 → x ≡ build n g m → Lanes 64 x (run n m g)
unfolding element
as-run x n m g h e = record { below = h; at = at }
  where
    at : (i : ℕ) → i < 1 → x / 2 ^ (64 * i) % 2 ^ 64 ≡ run n m g i
    at zero l = ap (λ z. z % 2 ^ 64) (div-one x) ∙ mod-eq_of_lt h ∙ e ∙ sym (run-first n m g)
    at (suc i) l = absurd (omega arith)

-- half a word is one run
pub half-run : {n : ℕ} → Doubles n → (x : ℕ) → x < 2 ^ 32 → Lanes 64 x (run n (32 / n) (element n x))
half-run {n} d x h =
    let small : 2 ^ 32 ≤ 2 ^ 64 = lit≤ tt in
    as-run x n (32 / n) (element n x) (omega arith)
    (sym (build-element n x (32 / n) ∙ rw d.part (mod-eq_of_lt h)))

-- two lists in turns
abbrev pub turns : (ℕ → ℕ) → (ℕ → ℕ) → ℕ → ℕ
turns f g i = cond (eqb (i % 2) 0) (f (i / 2)) (g (i / 2))

module _ {n : ℕ} (d : Doubles n) where
  turns-lanes : {a b : ℕ} (f g : ℕ → ℕ) → Lanes (n + n) a f → Lanes (n + n) b g
      → ((j : ℕ) → j < 64 / (n + n) → f j < 2 ^ n) → ((j : ℕ) → j < 64 / (n + n) → g j < 2 ^ n)
      → Lanes n (a + b * 2 ^ n) (turns f g)
  turns-lanes f g a b fs gs =
      parted d (turns f g)
      (same-lanes d.two
      (sum-lanes d.two a
      (times-lanes d.two b (2 ^ n) (λ j l. omega (arith, two-below n (fs j l) (gs j l))))
      (λ j l. two-below n (fs j l) (gs j l)))
      (λ j l. sym (pair j)))
      (λ i l. cond_below (eqb (i % 2) 0) (fs (i / 2) (omega (arith, d.count))) (gs (i / 2) (omega (arith, d.count))))
    where
      pair : (j : ℕ) → turns f g (j * 2) + turns f g (suc (j * 2)) * 2 ^ n ≡ f j + g j * 2 ^ n
      pair j =
          let e0 : j * 2 % 2 ≡ 0 = omega arith in
          let e1 : j * 2 / 2 ≡ j = omega arith in
          let o0 : suc (j * 2) % 2 ≡ 1 = omega arith in
          let o1 : suc (j * 2) / 2 ≡ j = omega arith in
          rw (e0, e1, o0, o1) refl

  -- as the code has it
  pub interleaved-lanes : (a b : ℕ) {k : ℕ} → a < 2 ^ 64 → b < 2 ^ 64 → k ≡ n
      → ((j : ℕ) → j < 64 / (n + n) → element (n + n) a j < 2 ^ n)
      → ((j : ℕ) → j < 64 / (n + n) → element (n + n) b j < 2 ^ n)
      → Lanes n (a + b * 2 ^ k % 2 ^ 64) (turns (element (n + n) a) (element (n + n) b))
  interleaved-lanes a b ha hb e fs gs =
      let all = turns-lanes (element (n + n) a) (element (n + n) b) (own d.two a ha) (own d.two b hb) fs gs in
      let fits : b * 2 ^ n < 2 ^ 64 = omega (arith, all.below) in
      rw (e, mod-eq_of_lt fits) all

  -- two half words
  pub halves-built : (f : ℕ → ℕ) {a b : ℕ} → a ≡ build n f (32 / n) → b ≡ build n (λ i. f (32 / n + i)) (32 / n)
      → a + b * 2 ^ 32 ≡ build n f (64 / n)
  halves-built f p q =
      ap₂ (λ x y. x + y * 2 ^ 32) p q
      ∙ sym (rw d.half (rw d.part at (build-split n f (32 / n) (32 / n))))

  -- a half word, and its elements
  pub half-below : (f : ℕ → ℕ) {r : ℕ} → r ≡ build n f (32 / n) → ((i : ℕ) → f i < 2 ^ n) → r < 2 ^ 32
  half-below f e room = rw e (rw d.part at (build-below n f room (32 / n)))

  pub half_at : (x h j : ℕ) → j < 32 / n → element n (x / 2 ^ (32 * h) % 2 ^ 32) j ≡ element n x (j + 32 / n * h)
  unfolding element
  half_at x h j l = (rw d.part at (element-in n (32 / n) x h j l)) ∙ ap (element n x) (omega arith)

-- one element on, or none
pub one_on : {k n o : ℕ} → k ≡ n → n < 64 → o ≤ 1 → k * o < 64
one_on {k} e h l = omega (arith, mul-le-mul_left k l)
