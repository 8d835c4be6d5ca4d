-- Bytes that were written, and the others. Assumes nothing.
use mathlib.Core.Path.{◌≡◌, ap, ◌∙◌}
use mathlib.Core.List.{List}
use Prim.Native.Nat.{ℕ, ◌+◌, ◌-◌, ◌^◌, ◌≤◌, ◌<◌}
use native.Mathlib.Omega.{arith}
use lib.ListN.{length, get_or}
use Rattle.memory.specs.Bytes.{replaced, bytes_of}
use Rattle.memory.specs.Value.{value, register}
use Rattle.memory.proofs.Numbers.{length-bytes_of}
use Rattle.memory.proofs.Parts.{length-replaced, replaced-inside, replaced-others}
use Rattle.memory.proofs.Values.{value-exact}
use Rattle.order.proofs.ByteLaws.{byte_of}
use Rattle.vectors.specs.Register.{element}
use Rattle.demands.specs.Tables.{Not}

-- n bytes that became those of x
module _ (d : List ℕ) (at n x : ℕ) (fits : at + n ≤ length d) where
  abbrev put : List ℕ
  put = bytes_of n x

  room : at + length put ≤ length d
  room = omega (arith, length-bytes_of n x)

  pub changed-length : length (replaced d at put) ≡ length d
  changed-length = length-replaced d at put room

  pub changed-byte : (b : ℕ) → b < n → get_or (replaced d at put) (at + b) 0 ≡ element 8 x b
  changed-byte b h =
      let k : at + b - at ≡ b = omega arith in
      replaced-inside d at put room (at + b) (omega arith) (omega (arith, length-bytes_of n x))
      ∙ ap (λ k. get_or put k 0) k
      ∙ byte_of n x b h

  pub changed-others : (k : ℕ) → Not ((at ≤ k) × (k < at + n)) → get_or (replaced d at put) k 0 ≡ get_or d k 0
  changed-others k out = replaced-others d at put room k (λ h. out (h.0, omega (arith, h.1, length-bytes_of n x)))

-- sixteen bytes that became those of a register
pub register-byte : (d : List ℕ) (at x : ℕ) → at + 16 ≤ length d → x < 2 ^ 128 → (b : ℕ) → b < 16
    → get_or (replaced d at (bytes_of 16 (value (register x)))) (at + b) 0 ≡ element 8 x b
register-byte d at x fits below b h =
    changed-byte d at 16 (value (register x)) fits b h ∙ ap (λ y. element 8 y b) (value-exact below)
