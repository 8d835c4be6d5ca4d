-- Four elements as one of four times the width, and SHF on the quarters of every element.
use mathlib.Core.Path.{◌≡◌, refl, sym, ap, ◌∙◌}
use Prim.Native.Nat.{ℕ, zero, suc, ◌+◌, ◌-◌, ◌*◌, ◌/◌, ◌%◌, ◌^◌, ◌≤◌, ◌<◌}
use native.Mathlib.Omega.{arith}
use native.Mathlib.Nat.{mul-le-mul_left, div-one}
use lib.Dec.{lit<}
use lib.Bits.{bit_and}
use Rattle.isa.specs.declared.Width.{Width}
use Rattle.isa.specs.declared.Width.TheVariants.{B, H, W, D}
use Rattle.isa.specs.Widths.{bits}
use Rattle.vectors.specs.Register.{element, build}
use Rattle.vectors.proofs.ElementLaws.{element-below, build-below, build-split}
use Rattle.vectors.proofs.Sizes.{Shares, shares}
use Rattle.parallel.specs.Lanes.{Lanes}
use Rattle.parallel.proofs.Words.{same-lanes, built, made, sum-lanes}
use Rattle.parallel_pack.proofs.Places.{run, element-in, quarter-fits, up-lanes}

-- runs of m elements are elements of m times the width
build_runs : (n m : ℕ) (g : ℕ → ℕ) (k : ℕ) → build (n * m) (run n m g) k ≡ build n g (k * m)
unfolding build
build_runs n m g zero = let e : 0 * m ≡ 0 = omega arith in rw e refl
build_runs n m g (suc k) =
    let e : suc k * m ≡ k * m + m = omega arith in
    let p : 2 ^ (n * m * k) ≡ 2 ^ (n * (k * m)) = ap (λ x. 2 ^ x) (omega arith) in
    rw (e, p, build-split n g (k * m) m, build_runs n m g k) refl

-- a word by the quarters of its elements
record Four (n : ℕ) : Type 0 where
  pub small : Shares (n / 4)
  pub count : 64 / (n / 4) ≡ 64 / n * 4

fours : (w : Width) → Four (bits w)
fours B = record { small = record { word = refl; register = refl; double = refl }; count = refl }
fours H = record { small = record { word = refl; register = refl; double = refl }; count = refl }
fours W = record { small = shares B; count = refl }
fours D = record { small = shares H; count = refl }

-- a quarter's place
pub place-fits : (w : Width) {i : ℕ} → i < 4 → bits w / 4 + bits w / 4 * i ≤ bits w
place-fits w {i} h = omega (arith, (quarter-fits w).four, mul-le-mul_left {m = suc i} {n = 4} (bits w / 4) h)

-- quarter c of x at quarter i
abbrev part : Width → ℕ → ℕ → ℕ → ℕ → ℕ
part w x c i j = element (bits w / 4) x (j * 4 + c) * 2 ^ (bits w / 4 * i)

module _ (w : Width) (x : ℕ) {y : ℕ} (c i : ℕ) (hx : x < 2 ^ 64)
    (mask : Lanes (bits w) y (λ _. 2 ^ (bits w / 4) - 1)) (hc : c < 4) (hi : i < 4) where
  chosen-part : (j : ℕ)
      → element (bits w) x j / 2 ^ (bits w / 4 * c) % 2 ^ (bits w / 4) ≡ element (bits w / 4) x (j * 4 + c)
  unfolding element
  chosen-part j = rw (quarter-fits w).four at (element-in (bits w / 4) 4 x j c hc)

  pub quarter-lanes : Lanes (bits w) (bit_and (x / 2 ^ (bits w / 4 * c)) y * 2 ^ (bits w / 4 * i)) (part w x c i)
  quarter-lanes =
      same-lanes (shares w)
      (up-lanes w x (bits w / 4 * c) (bits w / 4 * i) hx mask (place-fits w hc) (place-fits w hi))
      (λ j l. ap (λ z. z * 2 ^ (bits w / 4 * i)) (chosen-part j))

-- four of them
module _ (w : Width) (g : ℕ → ℕ) (room : (i : ℕ) → g i < 2 ^ (bits w / 4)) where
  run_room : (j : ℕ) → run (bits w / 4) 4 g j < 2 ^ bits w
  run_room j = rw (quarter-fits w).four at (build-below (bits w / 4) (λ i. g (j * 4 + i)) (λ i. room (j * 4 + i)) 4)

  of-runs : {r : ℕ} → Lanes (bits w) r (run (bits w / 4) 4 g) → Lanes (bits w / 4) r g
  of-runs a =
      made (fours w).small g
      (built (shares w) a
      ∙ ap (λ n. build n (run (bits w / 4) 4 g) (64 / bits w)) (sym (quarter-fits w).four)
      ∙ build_runs (bits w / 4) 4 g (64 / bits w)
      ∙ sym (ap (build (bits w / 4) g) (fours w).count))
      (λ i l. room i)

  run-four : (j : ℕ) {a b c d : ℕ}
      → a ≡ g (j * 4 + 0) → b ≡ g (j * 4 + 1) → c ≡ g (j * 4 + 2) → d ≡ g (j * 4 + 3)
      → a * 2 ^ (bits w / 4 * 0) + b * 2 ^ (bits w / 4 * 1) + c * 2 ^ (bits w / 4 * 2) + d * 2 ^ (bits w / 4 * 3)
      ≡ run (bits w / 4) 4 g j
  unfolding build
  run-four j ea eb ec ed = rw (ea, eb, ec, ed) (omega arith)

-- where the immediate sends element i of four
pub sent : (n x imm j i : ℕ) {c : ℕ} → i < 4 → c ≡ element 2 imm i
    → element n x (j * 4 + c) ≡ element n x ((j * 4 + i) / 4 * 4 + element 2 imm ((j * 4 + i) % 4))
sent n x imm j i l e =
    let p : (j * 4 + i) / 4 * 4 ≡ j * 4 = omega arith in
    let q : (j * 4 + i) % 4 ≡ i = omega arith in
    rw (p, q, ← e) refl

pub bits-0 : (imm : ℕ) → imm % 4 ≡ element 2 imm 0
unfolding element
bits-0 imm = ap (λ z. z % 4) (sym (div-one imm))

pub bits-1 : (imm : ℕ) → imm / 4 % 4 ≡ element 2 imm 1
unfolding element
bits-1 imm = refl

pub bits-2 : (imm : ℕ) → imm / 16 % 4 ≡ element 2 imm 2
unfolding element
bits-2 imm = refl

pub bits-3 : (imm : ℕ) → imm / 64 % 4 ≡ element 2 imm 3
unfolding element
bits-3 imm = refl

-- SHF on the quarters: the sums of two, of three and of all four are within their elements
module _ (w : Width) (x imm : ℕ) {a b c d : ℕ}
    (la : Lanes (bits w) a (part w x (imm % 4) 0)) (lb : Lanes (bits w) b (part w x (imm / 4 % 4) 1))
    (lc : Lanes (bits w) c (part w x (imm / 16 % 4) 2)) (ld : Lanes (bits w) d (part w x (imm / 64 % 4) 3)) where
  abbrev goal : ℕ → ℕ
  goal i = element (bits w / 4) x (i / 4 * 4 + element 2 imm (i % 4))

  goal-below : (i : ℕ) → goal i < 2 ^ (bits w / 4)
  goal-below i = element-below (bits w / 4) x (i / 4 * 4 + element 2 imm (i % 4))

  four : (j : ℕ)
      → part w x (imm % 4) 0 j + part w x (imm / 4 % 4) 1 j + part w x (imm / 16 % 4) 2 j + part w x (imm / 64 % 4) 3 j
      ≡ run (bits w / 4) 4 goal j
  four j = run-four w goal goal-below j
      (sent (bits w / 4) x imm j 0 (lit< tt) (bits-0 imm)) (sent (bits w / 4) x imm j 1 (lit< tt) (bits-1 imm))
      (sent (bits w / 4) x imm j 2 (lit< tt) (bits-2 imm)) (sent (bits w / 4) x imm j 3 (lit< tt) (bits-3 imm))

  pub two_lanes : Lanes (bits w) (a + b) (λ j. part w x (imm % 4) 0 j + part w x (imm / 4 % 4) 1 j)
  two_lanes = sum-lanes (shares w) la lb (λ j l. omega (arith, four j, run_room w goal goal-below j))

  pub three-lanes : Lanes (bits w) (a + b + c)
      (λ j. part w x (imm % 4) 0 j + part w x (imm / 4 % 4) 1 j + part w x (imm / 16 % 4) 2 j)
  three-lanes = sum-lanes (shares w) two_lanes lc (λ j l. omega (arith, four j, run_room w goal goal-below j))

  pub shuffled-lanes : Lanes (bits w / 4) (a + b + c + d) goal
  shuffled-lanes =
      of-runs w goal goal-below
      (same-lanes (shares w)
      (sum-lanes (shares w) three-lanes ld (λ j l. omega (arith, four j, run_room w goal goal-below j)))
      (λ j l. four j))
