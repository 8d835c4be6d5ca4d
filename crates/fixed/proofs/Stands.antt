-- A number that is cut and clamped: how far the result is from it. Assumes nothing.
use mathlib.Core.Path.{◌≡◌, ap, ◌∙◌}
use Prim.Native.Nat.{ℕ, ◌+◌, ◌-◌, ◌*◌, ◌/◌, ◌^◌, ◌≤◌, ◌<◌, min}
use native.Mathlib.Omega.{arith}
use native.Mathlib.Nat.{add-mul-div_right, div-add-mod', div-lt_iff_lt-mul, le-div_iff_mul-le, mod-lt}
use lib.IntN.{ℤ, neg_ℤ, ◌+ℤ◌, ◌*ℤ◌}
use lib.Signed.{◌≤ℤ◌, ◌<ℤ◌, shr_z}
use Rattle.isa.specs.declared.Fixed.TheVariants.{MulQ, MaddQ, MsubQ, MulrQ, MaddrQ, MsubrQ}
use Rattle.element.specs.declared.Reading.TheVariants.{Signed}
use Rattle.element.specs.Value.{top, signed, sat}
use Rattle.element.specs.Views.{flip}
use Rattle.element.proofs.Diff.{Diff, by_order, diff-pos, diff-neg, diff-add, diff-mul, diff-shr, diff-to}
use Rattle.element.proofs.Readings.{sat-view}
use Rattle.element.proofs.Views.{flip-below, flip_up, flip_down, signed-diff}
use Rattle.element.proofs.Widths.{Size, sized}
use Rattle.fixed.specs.Fixed.{product, widened, cut}
use Rattle.fixed.specs.Stands.{one, Clamped, over, under, Stands, AllStand}
use Rattle.fixed.proofs.Order.{to-less, from_less, to-most, from-most, over-multiple}

module _ (n : ℕ) (size : Size n) where
  flip-flip : {u : ℕ} → u < 2 ^ n → flip n (flip n u) ≡ u
  flip-flip {u} h =
      by_order u (top n)
      (λ l. ap (flip n) (flip_up n u l) ∙ flip_down n (u + top n) (omega arith) ∙ omega arith)
      (λ l. ap (flip n) (flip_down n u l) ∙ flip_up n (u - top n) (omega (arith, size.twice)) ∙ omega arith)

  -- the element whose view is u stands for u less 2^(n − 1)
  stands-for : {u : ℕ} → u < 2 ^ n → Diff (signed n (flip n u)) u (top n)
  stands-for h = rw (flip-flip h) at (signed-diff n size (flip-below n size h))

  module _ {z : ℤ} (a b : ℕ) (d : Diff z a (b * top n)) where
    abbrev u : ℕ
    u = min (a / top n + top n - b) (2 ^ n - 1)

    made : sat Signed n (shr_z z (top n)) ≡ flip n u
    made = sat-view n size Signed (diff-shr {a = a} {b = b} (top n) size.some d)

    is-over : (one n *ℤ one n) ≤ℤ z → top n + b ≤ a / top n
    is-over h =
        (le-div_iff_mul-le size.some).1 (omega (arith, from-most (diff-pos (top n * top n)) d h))

    is-under : z <ℤ (neg_ℤ (one n *ℤ one n)) → a / top n + top n < b
    is-under h =
        rw (add-mul-div_right a (top n) size.some) at
        ((div-lt_iff_lt-mul {x = a + top n * top n} {y = b} size.some).1
        (omega (arith, from_less d (diff-neg (diff-pos (top n * top n))) h)))

    module _ (not : Clamped n z → ⊥) where
      below : a / top n < top n + b
      below =
          (div-lt_iff_lt-mul size.some).1
          (by_order a ((top n + b) * top n) (λ l. l)
          (λ l. absurd (not (over (to-most (diff-pos (top n * top n)) d (omega arith))))))

      above : b ≤ a / top n + top n
      above =
          rw (add-mul-div_right a (top n) size.some) at
          ((le-div_iff_mul-le {x = b} {y = a + top n * top n} size.some).1
          (by_order (a + top n * top n) (b * top n)
          (λ l. absurd (not (under (to-less d (diff-neg (diff-pos (top n * top n))) (omega arith))))) (λ l. l)))

      exactly : u + b ≡ a / top n + top n
      exactly = omega (arith, below, above, size.twice)

      result : Diff (signed n (flip n u) *ℤ one n) (u * top n) (top n * top n)
      result = diff-to (diff-mul (stands-for (omega (arith, size.twice, size.some))) (diff-pos (top n))) (omega arith)

      scaled : u * top n + b * top n ≡ a / top n * top n + top n * top n
      scaled = let e = ap (λ x. x * top n) exactly in omega arith

      least : (signed n (flip n u) *ℤ one n) ≤ℤ z
      least = to-most result d (omega (arith, scaled, div-add-mod' a (top n)))

      most : z <ℤ (signed n (flip n u) *ℤ one n +ℤ one n)
      most =
          to-less d (diff-add result (diff-pos (top n)))
          (omega (arith, scaled, div-add-mod' a (top n), mod-lt a size.some))

    cut_stands : Stands n z (sat Signed n (shr_z z (top n)))
    cut_stands =
        rw made
        (record {
          small = flip-below n size (omega (arith, size.twice, size.some));
          least = least;
          most = most;
          largest =
              λ h. let e : u ≡ 2 ^ n - 1 = omega (arith, is-over h, size.twice) in
              ap (flip n) e ∙ flip_down n (2 ^ n - 1) (omega (arith, size.twice, size.some))
              ∙ omega (arith, size.twice);
          lowest =
              λ h. let e : u ≡ 0 = omega (arith, is-under h) in
              ap (flip n) e ∙ flip_up n 0 size.some ∙ omega arith;
        })

  stands : (z : ℤ) → Stands n z (sat Signed n (shr_z z (top n)))
  stands z = over-multiple (top n) size.some z (λ a b d. cut_stands a b d)

pub all-stand : AllStand
unfolding product widened cut
all-stand MulQ n any few d s t = stands n (sized n any few) _
all-stand MaddQ n any few d s t = stands n (sized n any few) _
all-stand MsubQ n any few d s t = stands n (sized n any few) _
all-stand MulrQ n any few d s t = stands n (sized n any few) _
all-stand MaddrQ n any few d s t = stands n (sized n any few) _
all-stand MsubrQ n any few d s t = stands n (sized n any few) _
