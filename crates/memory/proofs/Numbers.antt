-- Numbers in bytes: there and back, in two parts, and as std reads and writes them.
use mathlib.Core.Path.{◌≡◌, refl, sym, ap, ap₂, ◌∙◌}
use mathlib.Core.List.{List, [], ◌∷◌, ◌++◌}
use Prim.Native.Nat.{ℕ, zero, suc, ◌+◌, ◌*◌, ◌/◌, ◌%◌, ◌^◌, ◌≤◌, ◌<◌}
use native.Mathlib.Decide.{dec_le}
use native.Mathlib.Omega.{arith}
use lib.ListN.{length, get_or, take, drop, length-take, get_or-eq_default}
use lib.Pow.{pow-add, mod-pow-add}
use lib.Seq.{take-add, take-length, drop-drop}
use Rattle.memory.specs.Bytes.{part, replaced, number, bytes_of, AreBytes}
use Rattle.memory.proofs.Parts.{get_d_part, length_part, part-cons, replaced-beside}
use Rattle.std.proofs.Math.Nat.{pow-suc, div-div-eq-div-mul}
use Rattle.std.specs.Int.{Width, w8, w16, w32, w64, w128, byte_len, byte_at, byte_worth, bytes_low_first, sum_through}
use Rattle.std.specs.Int.{to_le_bytes, from_le_bytes}

pub length-bytes_of : (n x : ℕ) → length (bytes_of n x) ≡ n
unfolding bytes_of
length-bytes_of zero x = refl
length-bytes_of (suc n) x = ap suc (length-bytes_of n (x / 256))

-- one byte more
power : (n : ℕ) → 2 ^ (8 * suc n) ≡ 2 ^ (8 * n) * 2 ^ 8
power n = ap (λ m. 2 ^ m) (omega arith) ∙ pow-add 2 (8 * n) 8

-- the number of the bytes of x is x, in as many bytes as there are
pub number-bytes_of : (n x : ℕ) → number (bytes_of n x) ≡ x % 2 ^ (8 * n)
unfolding number bytes_of
number-bytes_of zero x = omega arith
number-bytes_of (suc n) x =
    let place : 8 * suc n ≡ 8 * n + 8 = omega arith in
    rw place (omega (arith, number-bytes_of n (x / 256), mod-pow-add x (8 * n) 8))

-- the bytes of the number that bytes spell are those bytes
pub bytes_of-number : (s : List ℕ) → AreBytes s → bytes_of (length s) (number s) ≡ s
unfolding number bytes_of
bytes_of-number [] h = refl
bytes_of-number (b ∷ s) h =
    let small : b < 256 = h 0 in
    let low : (b + 256 * number s) % 256 ≡ b = omega arith in
    let rest : (b + 256 * number s) / 256 ≡ number s = omega arith in
    ap₂ ◌∷◌ low (ap (bytes_of (length s)) rest ∙ bytes_of-number s (λ k. h (suc k)))

pub number-below : (s : List ℕ) → AreBytes s → number s < 2 ^ (8 * length s)
unfolding number
number-below [] h = omega arith
number-below (b ∷ s) h = rw power (omega (arith, h 0, number-below s (λ k. h (suc k))))

pub part_bytes : (s : List ℕ) (at n : ℕ) → AreBytes s → AreBytes (part s at n)
part_bytes s at n h k = within (dec_le (suc k) n)
  where
    within : Dec (k < n) → get_or (part s at n) k 0 < 256
    within (yes l) = rw (get_d_part s at n k l) (h (at + k))
    within (no l) = rw (get_or-eq_default (part s at n) 0 {n = k} (omega (arith, length-take n (drop at s)))) (omega arith)

-- numbers and bytes in two parts
pub number_append : (s t : List ℕ) → number (s ++ t) ≡ number s + number t * 2 ^ (8 * length s)
unfolding number
number_append [] t = omega arith
number_append (b ∷ s) t = rw power (omega (arith, number_append s t))

pub number-parts : (s : List ℕ) (at a b : ℕ) → at + a ≤ length s
    → number (part s at (a + b)) ≡ number (part s at a) + number (part s (at + a) b) * 2 ^ (8 * a)
number-parts s at a b h =
    let long = length_part s at a h in
    ap number (take-add a b (drop at s))
    ∙ number_append (part s at a) (take b (drop a (drop at s)))
    ∙ ap₂ (λ m l. number (part s at a) + number (take b l) * 2 ^ (8 * m)) long (drop-drop a at s)

pub bytes_of-append : (a b x y : ℕ) → x < 2 ^ (8 * a)
    → bytes_of (a + b) (x + y * 2 ^ (8 * a)) ≡ bytes_of a x ++ bytes_of b y
unfolding bytes_of
bytes_of-append zero b x y h =
    let size : 0 + b ≡ b = omega arith in
    let same : x + y * 2 ^ (8 * 0) ≡ y = omega arith in
    ap₂ bytes_of size same
bytes_of-append (suc a) b x y h =
    let one : suc a + b ≡ suc (a + b) = omega arith in
    let small : x < 2 ^ (8 * a) * 2 ^ 8 = rw power at h in
    let whole = x + y * (2 ^ (8 * a) * 2 ^ 8) in
    let byte : whole % 256 ≡ x % 256 = omega arith in
    let rest : whole / 256 ≡ x / 256 + y * 2 ^ (8 * a) = omega arith in
    rw (one, power) (ap₂ ◌∷◌ byte (ap (bytes_of (a + b)) rest ∙ bytes_of-append a b (x / 256) y (omega arith)))

-- std's words for the number that bytes spell, and for the bytes of a number
pow_256 : (i : ℕ) → 256 ^ i ≡ 2 ^ (8 * i)
pow_256 zero = omega arith
pow_256 (suc i) = rw (power i, pow-suc) (omega (arith, pow_256 i))

pub number-one : (s : List ℕ) (at : ℕ) → at < length s → number (part s at 1) ≡ get_or s at 0
unfolding number
number-one s at h = ap number (part-cons s at 0 h) ∙ omega arith

number_of-first : (s : List ℕ) (k : ℕ) → k < length s
    → sum_through (λ i. byte_worth i (get_or s i 0)) k ≡ number (part s 0 (suc k))
number_of-first s zero h = sym (number-one s 0 h)
number_of-first s (suc k) h =
    let size : suc (suc k) ≡ suc k + 1 = omega arith in
    let start : 0 + suc k ≡ suc k = omega arith in
    ap₂ (λ b n. b + get_or s (suc k) 0 * n) (number_of-first s k (omega arith)) (pow_256 (suc k))
    ∙ sym (ap (λ n. number (part s 0 n)) size
    ∙ number-parts s 0 (suc k) 1 (omega arith)
    ∙ ap (λ n. number (part s 0 (suc k)) + n * 2 ^ (8 * suc k)) (ap (λ n. number (part s n 1)) start
    ∙ number-one s (suc k) h))

from_le : (w : Width) (s : List ℕ) → length s ≡ byte_len w → from_le_bytes w s ≡ number s
from_le w s h = elim w as (λ v. length s ≡ byte_len v → from_le_bytes v s ≡ number s) [
  | w8 ↦ λ e. whole 0 e
  | w16 ↦ λ e. whole 1 e
  | w32 ↦ λ e. whole 3 e
  | w64 ↦ λ e. whole 7 e
  | w128 ↦ λ e. whole 15 e
] h
  where
    whole : (k : ℕ) → length s ≡ suc k → sum_through (λ i. byte_worth i (get_or s i 0)) k ≡ number s
    whole k e = number_of-first s k (omega arith) ∙ ap (λ n. number (take n s)) (sym e) ∙ ap number (take-length s)

-- what std reads of a part
pub number_read : (w : Width) (s : List ℕ) (at : ℕ) {b : List ℕ} {n : ℕ} → n ≡ from_le_bytes w b
    → b ≡ part s at (byte_len w)
    → at + byte_len w ≤ length s → n ≡ number (part s at (byte_len w))
number_read w s at e bytes fits = e ∙ from_le w _ (ap length bytes ∙ length_part s at (byte_len w) fits)
    ∙ ap number bytes

bytes_from : (i k x : ℕ) → bytes_low_first i k x ≡ bytes_of k (x / 256 ^ i)
unfolding bytes_of
bytes_from i zero x = refl
bytes_from i (suc k) x =
    ap₂ ◌∷◌ (byte i)
    (bytes_from (suc i) k x ∙ ap (λ n. bytes_of k (x / n)) (pow-suc 256 i)
    ∙ ap (bytes_of k) (sym (div-div-eq-div-mul x (256 ^ i) 256)))
  where
    byte : (i : ℕ) → byte_at i x ≡ x / 256 ^ i % 256
    byte zero = omega arith
    byte (suc i) = refl

pub to_le : (w : Width) (x : ℕ) → to_le_bytes w x ≡ bytes_of (byte_len w) x
to_le w x = bytes_from 0 (byte_len w) x ∙ ap (bytes_of (byte_len w)) (omega arith)

-- the bytes of one number written beside those of another
pub replaced-two : (d : List ℕ) (at a b x y : ℕ) → at + a ≤ length d → x < 2 ^ (8 * a)
    → replaced (replaced d at (bytes_of a x)) (at + a) (bytes_of b y)
    ≡ replaced d at (bytes_of (a + b) (x + y * 2 ^ (8 * a)))
replaced-two d at a b x y h small =
    ap (λ n. replaced (replaced d at (bytes_of a x)) (at + n) (bytes_of b y)) (sym (length-bytes_of a x))
    ∙ replaced-beside d at (bytes_of a x) (omega (arith, length-bytes_of a x)) (bytes_of b y)
    ∙ ap (replaced d at) (sym (bytes_of-append a b x y small))
