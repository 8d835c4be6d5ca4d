-- A product alone: when it is clamped, and how near the result is. Assumes nothing.
use mathlib.Core.Path.{◌≡◌, refl, ap, ◌∙◌}
use mathlib.Core.Bool.{true}
use Prim.Native.Nat.{ℕ, ◌+◌, ◌-◌, ◌*◌, ◌^◌, ◌≤◌, ◌<◌}
use native.Mathlib.Omega.{arith}
use native.Mathlib.Nat.{lt_of_mul-lt-mul_right, mul-le-mul_left, mul-le-mul_right}
use lib.IntN.{ℤ, pos, neg_ℤ, ◌+ℤ◌, ◌*ℤ◌}
use lib.Signed.{◌≤ℤ◌, ◌<ℤ◌}
use Rattle.isa.specs.declared.Fixed.TheVariants.{MulQ, MulrQ}
use Rattle.element.specs.Elements.{Elements}
use Rattle.element.specs.Value.{top, signed}
use Rattle.element.specs.Views.{flip}
use Rattle.element.proofs.Diff.{Diff, by_order, diff-pos, diff-neg, diff-add, diff-minus}
use Rattle.element.proofs.Views.{flip-below, flip_up, flip_down}
use Rattle.element.proofs.Widths.{Size, sized}
use Rattle.fixed.specs.Fixed.{product, rounding}
use Rattle.fixed.specs.Stands.{one, Clamped, over, under, Stands}
use Rattle.fixed.specs.Stands.{Alone, mul-q, mulr-q, fixed_in, uncut, Lowest, Near, Multiplied, Multiplies}
use Rattle.fixed.proofs.Forms.{product-diff}
use Rattle.fixed.proofs.Room.{rounding-twice}
use Rattle.fixed.proofs.Order.{to-less, from_less, to-most, from-most, over-multiple}
use Rattle.fixed.proofs.Stands.{all-stand}

-- of two factors, together at most u, whose product is within h of u times their sum, the first is 0
none : (u h a b : ℕ) → 0 < u → h + h ≤ u → a + b ≤ u → a * u + u * b ≤ a * b + h → a ≡ 0
none u h a b some small together large =
    let i : a * b ≤ u * b = mul-le-mul_right b (omega arith) in
    omega (arith, lt_of_mul-lt-mul_right u {m = a} {n = 1} (omega arith))

module _ (n : ℕ) (size : Size n) {s t : ℕ} (e : Elements n s t) (h : ℕ) (most-half : h + h ≤ top n) where
  abbrev a : ℕ
  a = flip n s

  abbrev b : ℕ
  b = flip n t

  abbrev p : ℤ
  p = signed n s *ℤ signed n t

  more : Diff (p +ℤ pos h) (a * b + top n * top n + h) (a * top n + top n * b + 0)
  unfolding product
  more = diff-add (product-diff n size e) (diff-pos h)

  few : {x : ℕ} → x < 2 ^ n → flip n x + 1 ≤ top n + top n
  few h = omega (arith, flip-below n size h, size.twice)

  -- a view of 0 is the lowest element's
  lowest-view : {x : ℕ} → flip n x ≡ 0 → x ≡ top n
  lowest-view {x} z =
      by_order x (top n) (λ l. absurd (omega (arith, flip_up n x l, size.some))) (λ l. omega (arith, flip_down n x l))

  -- a product of 1 or more has both views 0
  module _ (most : (one n *ℤ one n) ≤ℤ (p +ℤ pos h)) where
    large : a * top n + top n * b ≤ a * b + h
    large = let l = from-most (diff-pos (top n * top n)) more most in omega arith

    few-both : a + b ≤ top n
    few-both =
        let i = mul-le-mul_left a (few e.second) in
        let j = mul-le-mul_right b (few e.first) in
        omega (arith, large)

  -- and none is less than −1
  not-under : (p +ℤ pos h) <ℤ (neg_ℤ (one n *ℤ one n)) → ⊥
  not-under l =
      let k = from_less more (diff-neg (diff-pos (top n * top n))) l in
      by_order a (top n)
      (λ low.
      let c : ℕ = top n - a in
      let whole : c + a ≡ top n = omega arith in
      let i : c * b ≤ c * (top n + top n) = mul-le-mul_left c (omega (arith, few e.second)) in
      omega (arith, ap (λ x. x * b) whole, ap (λ x. x * top n) whole))
      (λ high.
      let i : top n * b ≤ a * b = mul-le-mul_right b high in
      let j : a * top n ≤ (top n + top n) * top n = mul-le-mul_right (top n) (omega (arith, few e.first)) in
      omega arith)

  clamped : Clamped n (p +ℤ pos h) → Lowest n s t
  clamped (over most) =
      record {
        first = lowest-view (none (top n) h a b size.some most-half (few-both most) (large most));
        second =
            lowest-view
            (none (top n) h b a size.some most-half (omega (arith, few-both most)) (omega (arith, large most)));
      }
  clamped (under l) = absurd (not-under l)

  reached : Lowest n s t → (one n *ℤ one n) ≤ℤ (p +ℤ pos h)
  reached l =
      let z : a ≡ 0 = rw l.first (flip_down n (top n) (omega arith) ∙ omega arith) in
      let z' : b ≡ 0 = rw l.second (flip_down n (top n) (omega arith) ∙ omega arith) in
      to-most (diff-pos (top n * top n)) more (rw (z, z') (omega arith))

  together : (o : Alone) (r : ℕ) → uncut (fixed_in o) n 0 s t ≡ p +ℤ pos h → Stands n (p +ℤ pos h) r
      → ((x : ℤ) → x ≤ℤ (p +ℤ pos h) → (p +ℤ pos h) <ℤ (x +ℤ one n) → Near o n x p) → Multiplied o n s t r
  together o r same stood near =
      record {
        clamped = λ c. clamped (rw same at c);
        always = λ l. rw same (over (reached l));
        largest = λ l. stood.largest (reached l);
        near = λ not. near _ (stood.least (λ c. not (rw same c))) (stood.most (λ c. not (rw same c)));
      }

-- x, 2^(n − 1) times the cut of p: at most p, and less than 2^(n − 1) below it; with the half added, within the half of
-- it
near-cut : (n : ℕ) (p x : ℤ) → x ≤ℤ (p +ℤ pos 0) → (p +ℤ pos 0) <ℤ (x +ℤ one n) → Near mul-q n x p
near-cut n p x l m =
    over-multiple 1 (omega arith) x (λ a b g. over-multiple 1 (omega arith) p (λ c d k.
    let q = diff-add k (diff-pos 0) in (
      to-most g k (omega (arith, from-most g q l)),
      to-less (diff-minus k g) (diff-pos (top n)) (omega (arith, from_less q (diff-add g (diff-pos (top n))) m)),
    )))

near-rounded : (n : ℕ) → 1 < n → (p x : ℤ) → x ≤ℤ (p +ℤ pos (rounding true n))
    → (p +ℤ pos (rounding true n)) <ℤ (x +ℤ one n) → Near mulr-q n x p
near-rounded n many p x l m =
    let h : ℕ = rounding true n in
    over-multiple 1 (omega arith) x (λ a b g. over-multiple 1 (omega arith) p (λ c d k.
    let q = diff-add k (diff-pos h) in (
      to-most (diff-minus g k) (diff-pos h) (omega (arith, from-most g q l)),
      to-most (diff-minus k g) (diff-pos h)
          (omega (arith, rounding-twice n many, from_less q (diff-add g (diff-pos (top n))) m)),
    )))

pub multiplies : Multiplies
multiplies mul-q n many few d s t hs ht =
    let any : 0 < n = omega arith in
    together n (sized n any few) (record { first = hs; second = ht }) 0 (omega arith) mul-q _ refl
    (all-stand MulQ n any few d s t) (near-cut n (signed n s *ℤ signed n t))
multiplies mulr-q n many few d s t hs ht =
    let any : 0 < n = omega arith in
    together n (sized n any few) (record { first = hs; second = ht }) (rounding true n)
    (omega (arith, rounding-twice n many)) mulr-q _ refl (all-stand MulrQ n any few d s t)
    (near-rounded n many (signed n s *ℤ signed n t))
