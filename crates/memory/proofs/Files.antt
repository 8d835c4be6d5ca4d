-- The file of vector registers: what is read after a write.
use mathlib.Core.Path.{◌≡◌, refl, sym, ap, ◌∙◌}
use mathlib.Core.List.{List}
use Prim.Native.Nat.{ℕ, suc, ◌+◌, ◌*◌, ◌%◌, ◌^◌, ◌≤◌, ◌<◌}
use native.Mathlib.Omega.{arith}
use native.Mathlib.Decide.{dec_le}
use lib.ListN.{length}
use Rattle.isa.specs.declared.Vreg.{Vreg}
use Rattle.memory.specs.Bytes.{part, number, bytes_of, AreBytes}
use Rattle.memory.specs.File.{register_at, with_register}
use Rattle.memory.specs.Value.{register, Holds}
use Rattle.memory.proofs.Parts.{part-past, length_part, length-replaced, part-replaced, part-before, part-after}
use Rattle.memory.proofs.Numbers.{length-bytes_of, number-below, part_bytes, number-bytes_of}

pub register_at-below : (file : List ℕ) (r : Vreg) → AreBytes file → length file ≡ 512 → r.0 < 32
    → register_at file r < 2 ^ 128
unfolding register_at
register_at-below file r h long small =
    rw (length_part file (16 * r.0) 16 (omega arith)) at (number-below (part file (16 * r.0) 16) (part_bytes file (16 * r.0) 16 h))

-- past the last register there are no bytes
pub no_register : (file : List ℕ) (r : Vreg) → length file ≡ 512 → 31 < r.0
    → Holds (record { low = 0; high = 0 }) (register_at file r)
unfolding register_at number register
no_register file r long past = rw (part-past file (16 * r.0) 16 (omega arith)) (record { is = refl; exact = refl })

module _ (file : List ℕ) (r : Vreg) (x : ℕ) (long : length file ≡ 512) (small : r.0 < 32) where
  fits : 16 * r.0 + length (bytes_of 16 x) ≤ length file
  fits = omega (arith, length-bytes_of 16 x)

  pub with_register-length : length (with_register file r x) ≡ 512
  unfolding with_register
  with_register-length = length-replaced file (16 * r.0) (bytes_of 16 x) fits ∙ long

  -- register r holds what was written
  pub with_register-same : register_at (with_register file r x) r ≡ x % 2 ^ 128
  unfolding register_at with_register
  with_register-same =
      ap (λ n. number (part (with_register file r x) (16 * r.0) n)) (sym (length-bytes_of 16 x))
      ∙ ap number (part-replaced file (16 * r.0) (bytes_of 16 x) fits)
      ∙ number-bytes_of 16 x

  -- every other register is as before
  pub with_register-other : (q : Vreg) → q.0 < 32 → (q.0 ≡ r.0 → ⊥)
      → register_at (with_register file r x) q ≡ register_at file q
  unfolding register_at with_register
  with_register-other q h other = beside (dec_le (suc q.0) r.0)
    where
      beside : Dec (suc q.0 ≤ r.0) → number (part (with_register file r x) (16 * q.0) 16)
          ≡ number (part file (16 * q.0) 16)
      beside (yes l) = ap number (part-before file (16 * r.0) (bytes_of 16 x) fits (16 * q.0) 16 (omega arith))
      beside (no l) =
          ap number (part-after file (16 * r.0) (bytes_of 16 x) fits (16 * q.0) 16 (omega (arith, length-bytes_of 16 x)) (omega arith))
