-- The high halves of the elements of s beside the low halves of those of t, as words of whole elements.
use mathlib.Core.Path.{ap, ap₂, ◌∙◌}
use Prim.Native.Nat.{ℕ, ◌+◌, ◌-◌, ◌/◌, ◌^◌, ◌<◌}
use Rattle.isa.specs.declared.Width.{Width}
use Rattle.isa.specs.Widths.{bits}
use Rattle.element.specs.declared.Reading.TheVariants.{Unsigned, Signed}
use Rattle.element.specs.Elements.{Elements}
use Rattle.element.specs.Value.{top}
use Rattle.element.specs.Views.{flip}
use Rattle.element.proofs.Views.{flip-below}
use Rattle.element.proofs.Widths.{half-size}
use Rattle.products.specs.Halves.{even, odd, hadd, hsub}
use Rattle.products.proofs.Halves.{even-below, odd-below}
use Rattle.vectors.specs.Register.{element}
use Rattle.vectors.proofs.ElementLaws.{element-below}
use Rattle.vectors.proofs.Sizes.{shares}
use Rattle.parallel.specs.Lanes.{Lanes, Each1, Each2}
use Rattle.parallel.proofs.Words.{same-lanes, sum-lanes}
use Rattle.parallel_halves.proofs.Parts.{sum_room, full-room, hadd-unsigned, hadd-signed, hsub-view}

module _ (w : Width) (s : ℕ) {x : ℕ} (hi : Each1 (bits w) x (odd (bits w)) s) where
  pub high_small : (i : ℕ) → i < 64 / bits w → element (bits w) x i < 2 ^ (bits w / 2)
  high_small i l = rw (hi.at i l) (odd-below (bits w) (half-size w) (element-below (bits w) s i))

module _ (w : Width) (t : ℕ) {y : ℕ} (lo : Each1 (bits w) y (even (bits w)) t) where
  pub low_small : (i : ℕ) → i < 64 / bits w → element (bits w) y i < 2 ^ (bits w / 2)
  low_small i l = rw (lo.at i l) (even-below (bits w) (element (bits w) t i))

module _ (w : Width) (s t : ℕ) {x y : ℕ} (hi : Each1 (bits w) x (odd (bits w)) s)
    (lo : Each1 (bits w) y (even (bits w)) t) where
  pub sum-unsigned : Each2 (bits w) (x + y) (hadd Unsigned (bits w)) s t
  sum-unsigned =
      same-lanes (shares w) (sum-lanes (shares w) hi lo
      (λ i l. sum_room w (odd-below (bits w) (half-size w) (element-below (bits w) s i))
      (even-below (bits w) (element (bits w) t i))))
      (λ i l. hadd-unsigned w (element (bits w) s i) (element (bits w) t i) (element-below (bits w) s i))

  pub apart-unsigned : {r : ℕ} → Each2 (bits w) r (λ a b. flip (bits w) (a + top (bits w) - b)) x y
      → Each2 (bits w) r (hsub Unsigned (bits w)) s t
  apart-unsigned r =
      same-lanes (shares w) r (λ i l. ap₂ (λ a b. flip (bits w) (a + top (bits w) - b)) (hi.at i l) (lo.at i l)
      ∙ hsub-view w (element (bits w) s i) (element (bits w) t i) (element-below (bits w) s i) Unsigned)

  -- and with the top bits turned
  module _ {p q : ℕ} (tx : Each1 (bits w) p (flip (bits w / 2)) x) (ty : Each1 (bits w) q (flip (bits w / 2)) y) where
    high-turned : Lanes (bits w) p (λ i. flip (bits w / 2) (odd (bits w) (element (bits w) s i)))
    high-turned = same-lanes (shares w) tx (λ i l. ap (flip (bits w / 2)) (hi.at i l))

    low-turned : Lanes (bits w) q (λ i. flip (bits w / 2) (even (bits w) (element (bits w) t i)))
    low-turned = same-lanes (shares w) ty (λ i l. ap (flip (bits w / 2)) (lo.at i l))

    pub turned-small : (i : ℕ) → i < 64 / bits w → Elements (bits w / 2) (element (bits w) p i) (element (bits w) q i)
    turned-small i l = record {
      first = rw (tx.at i l) (flip-below (bits w / 2) (half-size w).part (high_small w s hi i l));
      second = rw (ty.at i l) (flip-below (bits w / 2) (half-size w).part (low_small w t lo i l));
    }

    pub sum-turned : Lanes (bits w) (p + q) (λ i. flip (bits w / 2) (odd (bits w) (element (bits w) s i))
        + flip (bits w / 2) (even (bits w) (element (bits w) t i)))
    sum-turned =
        sum-lanes (shares w) high-turned low-turned (λ i l.
        sum_room w (rw (high-turned.at i l) at (turned-small i l).first)
        (rw (low-turned.at i l) at (turned-small i l).second))

    module _ {o : ℕ} (rest : Lanes (bits w) o (λ _. top (bits w) - 2 ^ (bits w / 2))) where
      pub sum-full : Lanes (bits w) (p + q + o) (λ i. flip (bits w / 2) (odd (bits w) (element (bits w) s i))
          + flip (bits w / 2) (even (bits w) (element (bits w) t i)) + (top (bits w) - 2 ^ (bits w / 2)))
      sum-full =
          sum-lanes (shares w) sum-turned rest (λ i l.
          full-room w (rw (high-turned.at i l) at (turned-small i l).first)
          (rw (low-turned.at i l) at (turned-small i l).second))

      pub sum-signed : {r : ℕ} → Each1 (bits w) r (flip (bits w)) (p + q + o)
          → Each2 (bits w) r (hadd Signed (bits w)) s t
      sum-signed back =
          same-lanes (shares w) back (λ i l. ap (flip (bits w)) (sum-full.at i l)
          ∙ hadd-signed w (element (bits w) s i) (element (bits w) t i) (element-below (bits w) s i))

    pub apart-signed : {r : ℕ} → Each2 (bits w) r (λ a b. flip (bits w) (a + top (bits w) - b)) p q
        → Each2 (bits w) r (hsub Signed (bits w)) s t
    apart-signed r =
        same-lanes (shares w) r (λ i l.
        ap₂ (λ a b. flip (bits w) (a + top (bits w) - b)) (high-turned.at i l) (low-turned.at i l)
        ∙ hsub-view w (element (bits w) s i) (element (bits w) t i) (element-below (bits w) s i) Signed)
