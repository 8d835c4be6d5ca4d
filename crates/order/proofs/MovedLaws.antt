-- Bytes of a word under the operations that turn it: bitwise ones go byte by byte, shifts by whole bytes move them; and
-- what a word comes to whose bytes were moved twice. Assumes nothing.
use mathlib.Core.Path.{◌≡◌, sym, ap, ap₂, ◌∙◌}
use mathlib.Core.Bool.{Bool, true, false, cond, not}
use Prim.Native.Nat.{ℕ, ◌+◌, ◌-◌, ◌*◌, ◌/◌, ◌%◌, ◌^◌, ◌<◌}
use native.Mathlib.Decide.{dec_lt}
use native.Mathlib.Nat.{mod-lt, mod-add-div', mod-eq_of_lt, div-eq_of_lt, add-mul-div_right}
use native.Mathlib.Omega.{arith}
use borrow.Author.Tests.{eqb-true, ltb-true, eq-eqb, ne_eqb}
use lib.Dec.{eqb, ltb}
use lib.Bits.{bit_and, bit_or, and_shr, or_shr, and_mod, or_mod, and_le_l, or_lt, and_mask}
use lib.Bits.{and_zero_r, or_zero_l, or_zero_r}
use lib.Pow.{pow_pos, shr_le}
use Rattle.vectors.specs.Register.{element, build}
use Rattle.vectors.proofs.ElementLaws.{element-below, element-low, element-high, build-element, build-same}
use Rattle.order.proofs.ByteLaws.{shifted_down, nothing}
use Rattle.order.proofs.Every.{every, every-at}
use Rattle.order.specs.Moved.{lower, neighbour, Lower, Moved}

-- ---- bytes of words

-- an operation that goes bit by bit goes byte by byte
op-byte : (op : ℕ → ℕ → ℕ) → ((a b k : ℕ) → op a b / 2 ^ k ≡ op (a / 2 ^ k) (b / 2 ^ k))
    → ((a b k : ℕ) → op a b % 2 ^ k ≡ op (a % 2 ^ k) (b % 2 ^ k))
    → (x y b : ℕ) → element 8 (op x y) b ≡ op (element 8 x b) (element 8 y b)
unfolding element
op-byte op shr rem x y b = ap (λ z. z % 2 ^ 8) (shr x y (8 * b)) ∙ rem (x / 2 ^ (8 * b)) (y / 2 ^ (8 * b)) 8

-- what is shifted out of a word is not among its bytes
in-word : (x b : ℕ) → b < 8 → element 8 (x % 2 ^ 64) b ≡ element 8 x b
in-word x b h = sym (element-low 8 8 (x % 2 ^ 64) (x / 2 ^ 64) b h) ∙ ap (λ z. element 8 z b) (mod-add-div' x (2 ^ 64))

emptied : (x n b : ℕ) → b < n → element 8 (x * 2 ^ (8 * n)) b ≡ 0
emptied x n b h =
    let e : 0 + x * 2 ^ (8 * n) ≡ x * 2 ^ (8 * n) = omega arith in
    ap (λ z. element 8 z b) (sym e) ∙ element-low 8 n 0 x b h ∙ nothing b

shifted_up : (x n c : ℕ) → element 8 (x * 2 ^ (8 * n)) (n + c) ≡ element 8 x c
shifted_up x n c =
    let e : 0 + x * 2 ^ (8 * n) ≡ x * 2 ^ (8 * n) = omega arith in
    ap (λ z. element 8 z (n + c)) (sym e) ∙ element-high 8 n 0 x (pow_pos (8 * n)) c

-- ---- neighbours

-- a byte with the ones of a mask, and one without
masked : (x m n b : ℕ) → Lower n m → b < 8 → element 8 (bit_and x m) b ≡ cond (lower n b) (element 8 x b) 0
masked x m n b l h = op-byte bit_and and_shr and_mod x m b ∙ ap (bit_and (element 8 x b)) (l.at b h) ∙ go (lower n b)
  where
    go : (t : Bool) → bit_and (element 8 x b) (cond t 255 0) ≡ cond t (element 8 x b) 0
    go true = and_mask (element 8 x b) 8 ∙ mod-eq_of_lt (element-below 8 x b)
    go false = and_zero_r (element 8 x b)

-- of a number and the next, one is even
parity : (q : ℕ) → eqb ((q + 1) % 2) 0 ≡ not (eqb (q % 2) 0)
parity q = go (dec_lt (q % 2) 1)
  where
    go : Dec (q % 2 < 1) → eqb ((q + 1) % 2) 0 ≡ not (eqb (q % 2) 0)
    go (yes h) = rw (eq-eqb (q % 2) 0 (omega arith), ne_eqb ((q + 1) % 2) 0 (λ e. omega arith))
    go (no h) = rw (ne_eqb (q % 2) 0 (λ e. omega arith), eq-eqb ((q + 1) % 2) 0 (omega arith))

-- a byte n places on is in the other group
other : (n c : ℕ) → 0 < n → lower n (n + c) ≡ not (lower n c)
other n c some =
    let e : n + c ≡ c + 1 * n = omega arith in
    ap (λ q. eqb (q % 2) 0) (ap (λ z. z / n) e ∙ add-mul-div_right c 1 some) ∙ parity (c / n)

-- the first n bytes are in a lower group
first : (n b : ℕ) → b < n → lower n b ≡ true
first n b h = rw (div-eq_of_lt h)

pub exchanges : (x n m : ℕ) → 0 < n → Lower n m → x < 2 ^ 64
    → Moved x (neighbour n) (bit_or (bit_and (x / 2 ^ (8 * n)) m) (bit_and x m * 2 ^ (8 * n) % 2 ^ 64))
exchanges x n m some l small = record { below = within; at = byte }
  where
    y : ℕ
    y = bit_and x m * 2 ^ (8 * n)

    within : bit_or (bit_and (x / 2 ^ (8 * n)) m) (y % 2 ^ 64) < 2 ^ 64
    within =
        let down : bit_and (x / 2 ^ (8 * n)) m < 2 ^ 64 =
        omega (arith, and_le_l (x / 2 ^ (8 * n)) m, shr_le x (8 * n)) in
        or_lt 64 _ _ down (mod-lt y (pow_pos 64))

    either : (t : Bool) (c b : ℕ)
        → bit_or (cond (not t) (element 8 x (n + b)) 0) (cond t (element 8 x c) 0)
        ≡ element 8 x (cond (not t) (n + b) c)
    either true c b = or_zero_l (element 8 x c)
    either false c b = or_zero_r (element 8 x (n + b))

    by_place : (b : ℕ) → b < 8 → Dec (b < n)
        → bit_or (cond (lower n b) (element 8 x (n + b)) 0) (element 8 y b) ≡ element 8 x (neighbour n b)
    by_place b h (yes k) = rw (first n b k, emptied (bit_and x m) n b k) (or_zero_r (element 8 x (n + b)))
    by_place b h (no k) =
        let c = b - n in
        let e : b ≡ n + c = omega arith in
        let group : lower n b ≡ not (lower n c) = ap (lower n) e ∙ other n c some in
        let up : element 8 y b ≡ cond (lower n c) (element 8 x c) 0 =
        ap (element 8 y) e ∙ shifted_up (bit_and x m) n c ∙ masked x m n c l (omega arith) in
        rw (group, up) (either (lower n c) c b)

    byte : (b : ℕ) → b < 8
        → element 8 (bit_or (bit_and (x / 2 ^ (8 * n)) m) (y % 2 ^ 64)) b ≡ element 8 x (neighbour n b)
    byte b h =
        op-byte bit_or or_shr or_mod (bit_and (x / 2 ^ (8 * n)) m) (y % 2 ^ 64) b
        ∙ ap₂ bit_or
        (masked (x / 2 ^ (8 * n)) m n b l h ∙ ap (λ z. cond (lower n b) z 0) (shifted_down x n b))
        (in-word y b h)
        ∙ by_place b h (dec_lt b n)

-- ---- words whose bytes were moved

-- whether two numberings of the bytes of a word are the same
abbrev pub tried : (ℕ → ℕ) → (ℕ → ℕ) → Bool
tried f g = every 8 (λ b. eqb (f b) (g b))

alike : (f g : ℕ → ℕ) → tried f g ≡ true → (b : ℕ) → b < 8 → f b ≡ g b
alike f g t b h = eqb-true (f b) (g b) (every-at 8 (λ b. eqb (f b) (g b)) t b h)

-- places of a word
abbrev pub in_word : (ℕ → ℕ) → Bool
in_word f = every 8 (λ b. ltb (f b) 8)

pub moved_by : {x y : ℕ} (f g : ℕ → ℕ) → tried f g ≡ true → Moved x f y → Moved x g y
moved_by {x} f g t a = record { below = a.below; at = λ b h. a.at b h ∙ ap (element 8 x) (alike f g t b h) }

-- moved by f, and what came of it by g
pub moved_on : {x y z : ℕ} (f g k : ℕ → ℕ) → in_word g ≡ true → tried (λ b. f (g b)) k ≡ true
    → Moved x f y → Moved y g z → Moved x k z
moved_on f g k p t a b =
    let places : (i : ℕ) → i < 8 → g i < 8 = λ i h. ltb-true (g i) 8 (every-at 8 (λ b. ltb (g b) 8) p i h) in
    moved_by (λ b. f (g b)) k t (record { below = b.below; at = λ i h. b.at i h ∙ a.at (g i) (places i h) })

pub lower_by : (n m : ℕ) → tried (element 8 m) (λ b. cond (lower n b) 255 0) ≡ true → Lower n m
lower_by n m t = record { at = alike (element 8 m) (λ b. cond (lower n b) 255 0) t }

-- a word that was moved is the number with its bytes
pub moved-built : {x y : ℕ} {f : ℕ → ℕ} → Moved x f y → y ≡ build 8 (λ b. element 8 x (f b)) 8
moved-built {x} {y} {f} a =
    sym (mod-eq_of_lt a.below)
    ∙ sym (build-element 8 y 8)
    ∙ build-same 8 (element 8 y) (λ b. element 8 x (f b)) 8 a.at
