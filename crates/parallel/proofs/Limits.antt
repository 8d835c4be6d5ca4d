-- Sums and differences that are held to the signed range: where what wraps has left it, the limit is picked (Held).
use mathlib.Core.Path.{◌≡◌, ap₂}
use mathlib.Core.Bool.{cond}
use Prim.Native.Nat.{ℕ, ◌+◌, ◌-◌, ◌/◌, ◌^◌, ◌<◌}
use lib.Bits.{bit_and, bit_xor}
use lib.Dec.{ltb}
use Rattle.isa.specs.declared.Width.{Width}
use Rattle.isa.specs.Widths.{bits}
use Rattle.element.specs.declared.Reading.TheVariants.{Signed}
use Rattle.element.specs.Value.{top}
use Rattle.element.proofs.Widths.{size}
use Rattle.linear.specs.Sums.{addv, subv, adds, subs}
use Rattle.vectors.specs.Register.{element}
use Rattle.vectors.proofs.ElementLaws.{element-below}
use Rattle.vectors.proofs.Sizes.{shares}
use Rattle.parallel.specs.Lanes.{Lanes, Each1, Each2, Each3}
use Rattle.parallel.proofs.Words.{own, same-lanes, and-lanes, xor-lanes}
use Rattle.parallel.proofs.Held.{adds-lane, subs-lane}

turned : (w : Width) (x y : ℕ) → x < 2 ^ 64 → y < 2 ^ 64 → Each2 (bits w) (bit_xor x y) bit_xor x y
turned w x y hx hy = xor-lanes (shares w) (own (shares w) x hx) (own (shares w) y hy)

module _ (w : Width) (s t : ℕ) {r z l out : ℕ} (hs : s < 2 ^ 64) (ht : t < 2 ^ 64) (hr : r < 2 ^ 64)
    (limit : Each1 (bits w) l (λ a. a / top (bits w) + (top (bits w) - 1)) s)
    (picked : Each3 (bits w) out (λ a y n. cond (ltb a (top (bits w))) y n) z r l) where
  lanes : {f : ℕ → ℕ} → Lanes (bits w) z f → Lanes (bits w) out (λ i.
      cond (ltb (f i) (top (bits w))) (element (bits w) r i) (element (bits w) s i / top (bits w) + (top (bits w) - 1)))
  lanes a = same-lanes (shares w) picked
      (λ i h. ap₂ (λ x y. cond (ltb x (top (bits w))) (element (bits w) r i) y) (a.at i h) (limit.at i h))

  pub adds-lanes : z ≡ bit_and (bit_xor s r) (bit_xor t r) → Each2 (bits w) r (addv (bits w)) s t
      → Each2 (bits w) out (adds Signed (bits w)) s t
  adds-lanes e sum = same-lanes (shares w)
      (lanes (rw e (and-lanes (shares w) (turned w s r hs hr) (turned w t r ht hr))))
      (λ i h. adds-lane (bits w) (size w) (element-below (bits w) s i) (element-below (bits w) t i) _
      (element-below (bits w) r i) (sum.at i h))

  pub subs-lanes : z ≡ bit_and (bit_xor s t) (bit_xor s r) → Each2 (bits w) r (subv (bits w)) s t
      → Each2 (bits w) out (subs Signed (bits w)) s t
  subs-lanes e gap = same-lanes (shares w)
      (lanes (rw e (and-lanes (shares w) (turned w s t hs ht) (turned w s r hs hr))))
      (λ i h. subs-lane (bits w) (size w) (element-below (bits w) s i) (element-below (bits w) t i) _
      (element-below (bits w) r i) (gap.at i h))
