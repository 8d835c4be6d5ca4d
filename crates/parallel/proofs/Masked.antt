-- Words under the masks of the top bits and of the bits below them, at each of the four widths.
use Prim.Native.Nat.{ℕ, ◌+◌, ◌-◌, ◌*◌, ◌/◌, ◌%◌, ◌^◌, ◌≤◌, ◌<◌}
use native.Mathlib.Omega.{arith}
use native.Mathlib.Nat.{mul-le-mul_right}
use lib.Bits.{bit_and, bit_or}
use Rattle.isa.specs.declared.Width.{Width}
use Rattle.isa.specs.Widths.{bits}
use Rattle.element.specs.Value.{top}
use Rattle.element.proofs.Widths.{size}
use Rattle.vectors.proofs.Sizes.{shares}
use Rattle.parallel.specs.Lanes.{Lanes}
use Rattle.parallel.proofs.Words.{fits, same-lanes, sum-lanes, minus-lanes}
use Rattle.parallel.proofs.Words.{minus-fits, times-lanes, and-lanes, or-lanes}
use Rattle.parallel.proofs.TopBit.{and-lows, or-top, below_top}

module _ (w : Width) where
  low-lanes : {x m : ℕ} {f : ℕ → ℕ} → Lanes (bits w) x f → Lanes (bits w) m (λ _. top (bits w) - 1)
      → Lanes (bits w) (bit_and x m) (λ i. f i % top (bits w))
  low-lanes {f = f} a b = same-lanes (shares w) (and-lanes (shares w) a b) (λ i l. and-lows (bits w) (size w) (f i))

  pub low_sum : {x y m : ℕ} {f g : ℕ → ℕ} → Lanes (bits w) x f → Lanes (bits w) y g
      → Lanes (bits w) m (λ _. top (bits w) - 1)
      → Lanes (bits w) (bit_and x m + bit_and y m) (λ i. f i % top (bits w) + g i % top (bits w))
  low_sum {f = f} {g} a b m = sum-lanes (shares w) (low-lanes a m) (low-lanes b m)
      (λ i l. omega (arith, size w, below_top (bits w) (size w) (f i), below_top (bits w) (size w) (g i)))

  module _ {x y h m : ℕ} {f g : ℕ → ℕ} (a : Lanes (bits w) x f) (b : Lanes (bits w) y g)
      (high : Lanes (bits w) h (λ _. top (bits w))) (low : Lanes (bits w) m (λ _. top (bits w) - 1)) where
    raised : Lanes (bits w) (bit_or x h) (λ i. f i % top (bits w) + top (bits w))
    raised =
        same-lanes (shares w) (or-lanes (shares w) a high) (λ i l. or-top (bits w) (size w) (fits (shares w) a i l))

    smaller : (i : ℕ) → i < 64 / bits w → g i % top (bits w) ≤ f i % top (bits w) + top (bits w)
    smaller i l = omega (arith, below_top (bits w) (size w) (g i))

    pub gap-fits : bit_and y m ≤ bit_or x h
    gap-fits = minus-fits (shares w) raised (low-lanes b low) smaller

    pub gap-lanes : Lanes (bits w) (bit_or x h - bit_and y m)
        (λ i. f i % top (bits w) + top (bits w) - g i % top (bits w))
    gap-lanes = minus-lanes (shares w) raised (low-lanes b low) smaller

  -- a bit for each element, times all ones
  pub bit-times : {x : ℕ} {f : ℕ → ℕ} → Lanes (bits w) x f → ((i : ℕ) → i < 64 / bits w → f i ≤ 1)
      → Lanes (bits w) (x * (2 ^ bits w - 1)) (λ i. f i * (2 ^ bits w - 1))
  bit-times {f = f} a small =
      times-lanes (shares w) a (2 ^ bits w - 1)
      (λ i l. omega (arith, size w, mul-le-mul_right (2 ^ bits w - 1) (small i l)))
