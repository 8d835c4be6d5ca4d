-- Halves of an element: their views, sums and differences in numbers, at the full width.
use mathlib.Core.Path.{◌≡◌, refl, sym}
use Prim.Native.Nat.{ℕ, ◌+◌, ◌-◌, ◌/◌, ◌^◌, ◌≤◌, ◌<◌}
use native.Mathlib.Omega.{arith}
use lib.Dec.{lit≤}
use lib.Pow.{pow_pos}
use Rattle.isa.specs.declared.Width.{Width}
use Rattle.isa.specs.declared.Width.TheVariants.{B, H, W, D}
use Rattle.isa.specs.Widths.{bits}
use Rattle.element.specs.declared.Reading.{Reading}
use Rattle.element.specs.declared.Reading.TheVariants.{Unsigned, Signed}
use Rattle.element.specs.Value.{top}
use Rattle.element.specs.Views.{flip, view}
use Rattle.element.proofs.Diff.{diff-pos, diff-add, diff-minus}
use Rattle.element.proofs.Readings.{value-diff, view-below}
use Rattle.element.proofs.Views.{wrap-is, wrap-flip}
use Rattle.element.proofs.Widths.{size, half-size}
use Rattle.products.specs.Halves.{even, odd, hadd, hsub}
use Rattle.products.proofs.Halves.{even-below, odd-below}

pub halved : (w : Width) → bits w ≡ bits w / 2 + bits w / 2
halved B = refl
halved H = refl
halved W = refl
halved D = refl

-- two halves have room below the top bit
pub two-halves : (w : Width) → 2 ^ (bits w / 2) + 2 ^ (bits w / 2) ≤ top (bits w)
two-halves B = lit≤ tt
two-halves H = lit≤ tt
two-halves W = lit≤ tt
two-halves D = lit≤ tt

module _ (w : Width) where
  pub lower-room : 2 ^ (bits w / 2) - 1 < 2 ^ bits w
  lower-room = omega (arith, (half-size w).room, pow_pos (bits w / 2))

  pub middle-room : top (bits w / 2) < 2 ^ bits w
  middle-room = omega (arith, (half-size w).room, (half-size w).part)

  pub short-room : top (bits w) - 2 ^ (bits w / 2) < 2 ^ bits w
  short-room = omega (arith, size w)

  module _ {x y : ℕ} (hx : x < 2 ^ (bits w / 2)) (hy : y < 2 ^ (bits w / 2)) where
    pub sum_room : x + y < 2 ^ bits w
    sum_room = omega (arith, two-halves w, size w)

    pub full-room : x + y + (top (bits w) - 2 ^ (bits w / 2)) < 2 ^ bits w
    full-room = omega (arith, two-halves w, size w)

    pub apart-room : x + top (bits w) - y < 2 ^ bits w
    apart-room = omega (arith, two-halves w, size w)

    pub apart-less : y ≤ x + top (bits w)
    apart-less = omega (arith, two-halves w)

    pub top-room : x + top (bits w) < 2 ^ bits w
    top-room = omega (arith, two-halves w, size w)

  module _ (s t : ℕ) (hs : s < 2 ^ bits w) where
    high : odd (bits w) s < 2 ^ (bits w / 2)
    high = odd-below (bits w) (half-size w) hs

    low : even (bits w) t < 2 ^ (bits w / 2)
    low = even-below (bits w) t

    pub hadd-unsigned : odd (bits w) s + even (bits w) t ≡ hadd Unsigned (bits w) s t
    unfolding hadd
    hadd-unsigned =
        sym (wrap-is (bits w) (diff-add (diff-pos (odd (bits w) s)) (diff-pos (even (bits w) t))) _ 0 0
        (sum_room high low) (omega arith))

    pub hadd-signed : flip (bits w) (flip (bits w / 2) (odd (bits w) s) + flip (bits w / 2) (even (bits w) t)
        + (top (bits w) - 2 ^ (bits w / 2))) ≡ hadd Signed (bits w) s t
    unfolding hadd
    hadd-signed =
        let half = (half-size w).part in
        sym (wrap-flip (bits w) (size w) _
        (diff-add (value-diff (bits w / 2) half Signed high) (value-diff (bits w / 2) half Signed low))
        (omega (arith, two-halves w))
        (full-room (view-below (bits w / 2) half Signed high) (view-below (bits w / 2) half Signed low)))

    pub hsub-view : (g : Reading) → flip (bits w) (view g (bits w / 2) (odd (bits w) s) + top (bits w)
        - view g (bits w / 2) (even (bits w) t)) ≡ hsub g (bits w) s t
    unfolding hsub
    hsub-view g =
        let half = (half-size w).part in
        let x = view-below (bits w / 2) half g high in
        let y = view-below (bits w / 2) half g low in
        sym (wrap-flip (bits w) (size w) _
        (diff-minus (value-diff (bits w / 2) half g high) (value-diff (bits w / 2) half g low))
        (omega (arith, apart-less x y)) (apart-room x y))
