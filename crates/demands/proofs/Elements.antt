-- Elements by the bits of a register's bytes are the elements of the register's number. Assumes nothing.
use mathlib.Core.Path.{◌≡◌, sym, ap, ◌∙◌}
use mathlib.Core.List.{List}
use Prim.Native.Nat.{ℕ, zero, suc, ◌+◌, ◌-◌, ◌*◌, ◌/◌, ◌%◌, ◌^◌, ◌≤◌, ◌<◌}
use native.Mathlib.Omega.{arith}
use lib.ListN.{get_or}
use lib.Pow.{field, mod-mod-pow, mod-pow-add, shr-shr}
use Rattle.isa.specs.declared.Vreg.{Vreg}
use Rattle.memory.specs.Bytes.{part, AreBytes}
use Rattle.memory.specs.File.{register_at}
use Rattle.memory.proofs.Numbers.{part_bytes}
use Rattle.memory.proofs.Parts.{get_d_part}
use Rattle.order.proofs.ByteLaws.{byte-in}
use Rattle.vectors.specs.Register.{element}
use Rattle.demands.specs.LanesApart.{register_bit, bits_from, element_in}

-- bit k of the low eight bits of y
low_bit : (y k : ℕ) → k < 8 → y % 2 ^ 8 / 2 ^ k % 2 ≡ y / 2 ^ k % 2
low_bit y k h =
    let eight : 8 ≡ 8 - k + k = omega arith in
    let rest : 8 - k ≡ 7 - k + 1 = omega arith in
    ap (λ z. y % 2 ^ z / 2 ^ k % 2) eight
    ∙ ap (λ z. z % 2) (field y (8 - k) k)
    ∙ ap (λ z. y / 2 ^ k % 2 ^ z % 2) rest
    ∙ mod-mod-pow (y / 2 ^ k) (7 - k) 1

-- a register whose bytes are those of x
module _ (file : List ℕ) (r : Vreg) (x : ℕ) (is : (b : ℕ) → b < 16 → get_or file (16 * r.0 + b) 0 ≡ element 8 x b) where
  bit_is : (j : ℕ) → j < 128 → register_bit file r j ≡ x / 2 ^ j % 2
  unfolding element
  bit_is j h =
      let at : 8 * (j / 8) + j % 8 ≡ j = omega arith in
      ap (λ z. z / 2 ^ (j % 8) % 2) (is (j / 8) (omega arith))
      ∙ low_bit (x / 2 ^ (8 * (j / 8))) (j % 8) (omega arith)
      ∙ ap (λ z. z % 2) (shr-shr x (8 * (j / 8)) (j % 8))
      ∙ ap (λ z. x / 2 ^ z % 2) at

  bits_are : (n j : ℕ) → j + n ≤ 128 → bits_from file r j n ≡ x / 2 ^ j % 2 ^ n
  unfolding bits_from
  bits_are zero j h = omega arith
  bits_are (suc n) j h =
      let up : suc n ≡ n + 1 = omega arith in
      rw (bit_is j (omega arith), bits_are n (j + 1) (omega arith), ← shr-shr x j 1, up, mod-pow-add (x / 2 ^ j) n 1)
      (omega arith)

  pub element-is : (n i : ℕ) → n * i + n ≤ 128 → element_in file r n i ≡ element n x i
  unfolding element
  element-is n i h = bits_are n (n * i) h

-- the number of a register has its bytes
pub register-bytes : (file : List ℕ) (r : Vreg) → AreBytes file
    → (b : ℕ) → b < 16 → get_or file (16 * r.0 + b) 0 ≡ element 8 (register_at file r) b
unfolding register_at
register-bytes file r are_bytes b h =
    let s : List ℕ = part file (16 * r.0) 16 in
    sym (byte-in s (part_bytes file (16 * r.0) 16 are_bytes) b ∙ get_d_part file (16 * r.0) 16 b h)
