-- One element by a number of bits, and the amounts that an element stands for.
use mathlib.Core.Path.{◌≡◌, refl, sym, ap, ◌∙◌}
use Prim.Native.Nat.{ℕ, zero, suc, ◌+◌, ◌-◌, ◌*◌, ◌/◌, ◌%◌, ◌^◌, ◌≤◌, ◌<◌}
use native.Mathlib.Omega.{arith}
use native.Mathlib.Nat.{mod-lt, mod-eq_of_lt, div-add-mod', mul-le-mul_right}
use borrow.Author.Tests.{eq-eqb, ne_eqb}
use lib.Arith.{digits_lt}
use lib.Bits.{bit_and, bit_or, bit_xor, and_high, and_mask, and_le_l, and_le_r, or_lt, or_add_and, xor_add_and}
use lib.Dec.{lit≤}
use lib.Pow.{pow_pos, pow-lt, pow-add, field, mod-mod-pow, ones_lt, ones_split, shl-shr, shr-shr}
use lib.Pow as pow
use Rattle.isa.specs.declared.Width.{Width}
use Rattle.isa.specs.declared.Width.TheVariants.{B, H, W, D}
use Rattle.isa.specs.Widths.{bits}
use Rattle.element.proofs.Views.{mod-is}
use Rattle.element.proofs.Widths.{size, low-low}
use Rattle.bits.specs.Places.{bit_at, with_bit, over}
use Rattle.bits.specs.Shifts.{sll, last_out}

-- what holds of each width: a byte at least, and a power of two, so that it divides the number of an element's values
pub wide : (w : Width) → 8 ≤ bits w
wide B = lit≤ tt
wide H = lit≤ tt
wide W = lit≤ tt
wide D = lit≤ tt

divides : (w : Width) → 2 ^ bits w ≡ 2 ^ bits w / bits w * bits w
divides B = refl
divides H = refl
divides W = refl
divides D = refl

pub amount-mask : (w : Width) (e : ℕ) → bit_and e (bits w - 1) ≡ e % bits w
amount-mask B e = and_mask e 3
amount-mask H e = and_mask e 4
amount-mask W e = and_mask e 5
amount-mask D e = and_mask e 6

-- what is shifted out of the word is no part of the element
pub sll-cut : (w : Width) (x k : ℕ) → x * 2 ^ k % 2 ^ 64 % 2 ^ bits w ≡ sll (bits w) x k
unfolding sll
sll-cut w x k = low-low w (x * 2 ^ k)

pub amount-below : (w : Width) (e : ℕ) → e % bits w < bits w
amount-below w e = mod-lt e (size w).any

-- the amount that an element with its bits the other way round asks for
pub amount-inverse : (w : Width) (x : ℕ) → x < 2 ^ bits w
    → (2 ^ bits w - 1 - x) % bits w ≡ bits w - 1 - x % bits w
amount-inverse w x h =
    let n = bits w in
    mod-is (2 ^ n - 1 - x) n (n - 1 - x % n) (x / n + 1) (2 ^ n / n) (omega (arith, size w))
    (omega (arith, amount-below w x, divides w, div-add-mod' x n))

-- ones without the k lowest
pub ones_shr : (n k : ℕ) → k ≤ n → (2 ^ n - 1) / 2 ^ k ≡ 2 ^ (n - k) - 1
ones_shr n k h =
    ap (λ p. (2 ^ p - 1) / 2 ^ k) (let e : n ≡ n - k + k = omega arith in e)
    ∙ ap (λ z. z / 2 ^ k) (ones_split (n - k) k) ∙ pow.high (2 ^ (n - k) - 1) k (ones_lt k)

module _ (n f k : ℕ) (small : k < n) where
  -- 2^n in steps of 2^k
  pub whole : 2 ^ n ≡ 2 ^ (n - k) * 2 ^ k
  whole = ap (λ p. 2 ^ p) (omega arith) ∙ pow-add 2 (n - k) k

  pub moved-below : f % 2 ^ (n - k) * 2 ^ k < 2 ^ n
  moved-below = rw whole (omega (arith, digits_lt {c = 2 ^ k} (mod-lt f (pow_pos (n - k))) (pow_pos k)))

  pub sll-lane : f % 2 ^ (n - k) * 2 ^ k ≡ sll n f k
  unfolding sll
  sll-lane = sym (mod-is (f * 2 ^ k) (2 ^ n) (f % 2 ^ (n - k) * 2 ^ k) 0 (f / 2 ^ (n - k)) moved-below
      (rw whole (let e = ap (λ x. x * 2 ^ k) (div-add-mod' f (2 ^ (n - k))) in omega arith)))

-- shifts to the left: an element, by nothing, by two amounts in turn, and of 1
module _ (n : ℕ) where
  pub sll-below : (a k : ℕ) → sll n a k < 2 ^ n
  unfolding sll
  sll-below a k = mod-lt (a * 2 ^ k) (pow_pos n)

  pub sll-none : (a : ℕ) → a < 2 ^ n → sll n a 0 ≡ a
  unfolding sll
  sll-none a h = ap (λ z. z % 2 ^ n) (let e : a * 2 ^ 0 ≡ a = omega arith in e) ∙ mod-eq_of_lt h

  pub sll-more : (a j k : ℕ) → sll n (sll n a j) k ≡ sll n a (j + k)
  unfolding sll
  sll-more a j k =
      let m = 2 ^ n in
      let r = a * 2 ^ j % m in
      sym (mod-is (a * 2 ^ (j + k)) m (r * 2 ^ k % m) 0 (r * 2 ^ k / m + a * 2 ^ j / m * 2 ^ k)
      (mod-lt (r * 2 ^ k) (pow_pos n))
      (omega (
        arith,
        div-add-mod' (r * 2 ^ k) m,
        ap (λ z. z * 2 ^ k) (div-add-mod' (a * 2 ^ j) m),
        ap (λ z. a * z) (pow-add 2 j k),
      )))

  pub sll-one : (k : ℕ) → k < n → sll n 1 k ≡ 2 ^ k
  unfolding sll
  sll-one k h = ap (λ z. z % 2 ^ n) (let e : 1 * 2 ^ k ≡ 2 ^ k = omega arith in e) ∙ mod-eq_of_lt (pow-lt h)

-- one bit
bit-lane : (f k : ℕ) → bit_and f (2 ^ k) ≡ bit_at f k * 2 ^ k
unfolding bit_at
bit-lane f k = ap (bit_and f) (let e = pow-add 2 1 k in omega arith) ∙ and_high f 1 k

pub clear-lane : (f k : ℕ) → f - bit_and f (2 ^ k) ≡ with_bit f k 0
unfolding with_bit
clear-lane f k = omega (arith, bit-lane f k)

pub set-lane : (f k : ℕ) → bit_or f (2 ^ k) ≡ with_bit f k 1
unfolding with_bit
set-lane f k = omega (arith, bit-lane f k, and_le_l f (2 ^ k), or_add_and f (2 ^ k))

pub turn-lane : (f k : ℕ) → bit_xor f (2 ^ k) ≡ with_bit f k (1 - bit_at f k)
unfolding with_bit
turn-lane f k =
    go (bit_at f k) (omega (arith, bit-lane f k, xor_add_and f (2 ^ k)))
    (omega (arith, bit-lane f k, and_le_l f (2 ^ k))) (omega (arith, bit-lane f k, and_le_r f (2 ^ k)))
  where
    go : (b : ℕ) → bit_xor f (2 ^ k) + b * 2 ^ k * 2 ≡ f + 2 ^ k → b * 2 ^ k ≤ f → b * 2 ^ k ≤ 2 ^ k
        → bit_xor f (2 ^ k) ≡ f - b * 2 ^ k + (1 - b) * 2 ^ k
    go zero e h l = omega arith
    go (suc b) e h l =
        let z : 1 - suc b ≡ 0 = omega arith in
        rw z (omega (arith, mul-le-mul_right {m = 1} {n = suc b} (2 ^ k) (omega arith)))

-- a number in place of another under a mask
pub over-room : (n : ℕ) (d f m : ℕ) → f < 2 ^ n → m < 2 ^ n → f - bit_and f m + bit_and d m < 2 ^ n
over-room n d f m hf hm = omega (arith, or_lt n f m hf hm, or_add_and f m, and_le_l f m, and_le_r d m)

pub over-lane : (d f p : ℕ) → f - bit_and f (2 ^ p - 1) + bit_and d (2 ^ p - 1) ≡ over d f p
unfolding over
over-lane d f p = omega (arith, and_mask f p, and_mask d p, div-add-mod' f (2 ^ p))

pub up_to : (k : ℕ) → 2 ^ k - 1 + 2 ^ k ≡ 2 ^ (k + 1) - 1
up_to k = omega (arith, pow-add 2 k 1, pow_pos k)

-- the last bit out
last_none : (f k : ℕ) → k ≡ 0 → 0 ≡ last_out f k
unfolding last_out
last_none f k e = rw (eq-eqb k 0 e)

last_some : (f k : ℕ) → (k ≡ 0 → ⊥) → f / 2 ^ (k - 1) % 2 ^ 1 ≡ last_out f k
unfolding last_out bit_at
last_some f k e = rw (ne_eqb k 0 e)

pub last-lane : (n f k : ℕ) → 1 < n → k < n → sll n f 1 / 2 ^ k % 2 ^ 1 ≡ last_out f k
last-lane n f zero any small =
    ap (λ z. z / 2 ^ 0 % 2 ^ 1) (sym (sll-lane n f 1 any)) ∙ omega arith ∙ last_none f 0 refl
last-lane n f (suc k) any small =
    let low : f % 2 ^ (n - 1) / 2 ^ k ≡ f / 2 ^ k % 2 ^ (n - 1 - k - 1 + 1) =
    ap (λ p. f % 2 ^ p / 2 ^ k) (let e : n - 1 ≡ n - 1 - k - 1 + 1 + k = omega arith in e)
    ∙ field f (n - 1 - k - 1 + 1) k in
    ap (λ z. z / 2 ^ suc k % 2 ^ 1) (sym (sll-lane n f 1 any))
    ∙ ap (λ z. z % 2 ^ 1) (ap (λ p. f % 2 ^ (n - 1) * 2 ^ 1 / 2 ^ p) (let e : suc k ≡ 1 + k = omega arith in e)
    ∙ sym (shr-shr (f % 2 ^ (n - 1) * 2 ^ 1) 1 k) ∙ ap (λ z. z / 2 ^ k) (shl-shr (f % 2 ^ (n - 1)) 1) ∙ low)
    ∙ mod-mod-pow (f / 2 ^ k) (n - 1 - k - 1) 1
    ∙ ap (λ p. f / 2 ^ p % 2 ^ 1) (let e : k ≡ suc k - 1 = omega arith in e)
    ∙ last_some f (suc k) (λ z. omega arith)
