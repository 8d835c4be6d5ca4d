-- Bytes as elements of 8 bits: those of a number, and those of the number that bytes spell. Assumes nothing.
use mathlib.Core.Path.{◌≡◌, sym, ap, ◌∙◌}
use mathlib.Core.List.{List, [], ◌∷◌}
use Prim.Native.Nat.{ℕ, zero, suc, ◌+◌, ◌*◌, ◌/◌, ◌%◌, ◌^◌, ◌<◌}
use native.Mathlib.Omega.{arith}
use lib.ListN.{get_or}
use lib.Pow.{pow_pos, shr-shr}
use Rattle.memory.specs.Bytes.{number, bytes_of, AreBytes}
use Rattle.vectors.specs.Register.{element}
use Rattle.vectors.proofs.ElementLaws.{element-beyond}

-- n bytes down
pub shifted_down : (x n b : ℕ) → element 8 (x / 2 ^ (8 * n)) b ≡ element 8 x (n + b)
unfolding element
shifted_down x n b = ap (λ z. z % 2 ^ 8) (shr-shr x (8 * n) (8 * b) ∙ ap (λ k. x / 2 ^ k) (omega arith))

pub nothing : (b : ℕ) → element 8 0 b ≡ 0
nothing b = element-beyond 8 0 b (pow_pos (8 * b))

next-byte : (x b : ℕ) → element 8 (x / 256) b ≡ element 8 x (suc b)
next-byte x b = shifted_down x 1 b ∙ ap (element 8 x) (omega arith)

pub byte_of : (n x b : ℕ) → b < n → get_or (bytes_of n x) b 0 ≡ element 8 x b
unfolding bytes_of element
byte_of zero x b h = absurd (omega arith)
byte_of (suc n) x zero h = omega arith
byte_of (suc n) x (suc b) h = byte_of n (x / 256) b (omega arith) ∙ next-byte x b

pub byte-in : (s : List ℕ) → AreBytes s → (b : ℕ) → element 8 (number s) b ≡ get_or s b 0
unfolding number element
byte-in [] h b = nothing b
byte-in (x ∷ s) h zero = omega (arith, h 0)
byte-in (x ∷ s) h (suc b) =
    let rest : (x + 256 * number s) / 256 ≡ number s = omega (arith, h 0) in
    sym (next-byte (x + 256 * number s) b) ∙ ap (λ z. element 8 z b) rest ∙ byte-in s (λ k. h (suc k)) b
