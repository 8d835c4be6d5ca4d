-- Masks and ends of ranges, from the word of the powers of two that the amounts in t stand for.
use Prim.Native.Nat.{ℕ, ◌+◌, ◌-◌, ◌/◌, ◌%◌, ◌^◌, ◌≤◌, ◌<◌}
use native.Mathlib.Omega.{arith}
use lib.Pow.{pow_pos}
use Rattle.isa.specs.declared.Width.{Width}
use Rattle.isa.specs.Widths.{bits}
use Rattle.element.specs.Value.{top}
use Rattle.element.proofs.Widths.{size}
use Rattle.bits.proofs.Fields.{place-le}
use Rattle.vectors.specs.Register.{element}
use Rattle.vectors.proofs.Sizes.{shares}
use Rattle.parallel.specs.Lanes.{Lanes, Each1}
use Rattle.parallel.proofs.Words.{minus-lanes, minus-fits, sum-lanes}
use Rattle.parallel_bits.proofs.Amounts.{amount-below}

module _ (w : Width) (t : ℕ) {p : ℕ} (power : Each1 (bits w) p (λ b. 2 ^ (b % bits w)) t) where
  some : (i : ℕ) → i < 64 / bits w → 0 < 2 ^ (element (bits w) t i % bits w)
  some i l = pow_pos (element (bits w) t i % bits w)

  place : (i : ℕ) → i < 64 / bits w → 2 ^ (element (bits w) t i % bits w) ≤ top (bits w)
  place i l = place-le (bits w) (element (bits w) t i % bits w) (amount-below w (element (bits w) t i))

  module _ {u : ℕ} (unit : Lanes (bits w) u (λ _. 1)) where
    pub below-fits : u ≤ p
    below-fits = minus-fits (shares w) power unit some

    pub below-lanes : Each1 (bits w) (p - u) (λ b. 2 ^ (b % bits w) - 1) t
    below-lanes = minus-lanes (shares w) power unit some

    pub up-to-lanes : Each1 (bits w) (p - u + p) (λ b. 2 ^ (b % bits w) - 1 + 2 ^ (b % bits w)) t
    up-to-lanes = sum-lanes (shares w) below-lanes power (λ i l. omega (arith, size w, some i l, place i l))

  module _ {h : ℕ} (high : Lanes (bits w) h (λ _. top (bits w))) where
    pub lowest-fits : p ≤ h
    lowest-fits = minus-fits (shares w) high power place

    pub lowest-lanes : Each1 (bits w) (h - p) (λ b. top (bits w) - 2 ^ (b % bits w)) t
    lowest-lanes = minus-lanes (shares w) high power place

    pub highest-lanes : {u : ℕ} → Lanes (bits w) u (λ _. 1)
        → Each1 (bits w) (h + (p - u)) (λ b. top (bits w) + (2 ^ (b % bits w) - 1)) t
    highest-lanes unit =
        sum-lanes (shares w) high (below-lanes unit) (λ i l. omega (arith, size w, some i l, place i l))
