-- Sums, differences, averages and order in natural numbers: what is left of each definition in ℤ once the views have been put in.
-- Assumes nothing.
use Rattle.std.proofs.Common.{◌≡◌, ℕ, ◌+◌, ◌-◌, ◌/◌, ◌^◌, ◌<◌, min, cond, ltb, ap, ◌∙◌, arith}
use Rattle.element.specs.declared.Reading.{Reading}
use Rattle.element.specs.declared.Reading.TheVariants.{Unsigned, Signed}
use Rattle.element.specs.Elements.{Elements}
use Rattle.element.specs.Value.{top, value}
use Rattle.element.specs.Views.{flip, view, bias}
use Rattle.element.proofs.Diff.{Diff, diff-pos, diff-add, diff-minus, diff-abs, diff-shr, diff-to}
use Rattle.element.proofs.Readings.{value-diff, view-below, wrap-view, sat-view, less-view}
use Rattle.element.proofs.Widths.{Size}
use Rattle.linear.specs.Sums.{adds, subs, subsus_u, subsuu_s, asub, average}
use Rattle.linear.specs.Order.{larger, smaller}

module _ (n : ℕ) (size : Size n) {s t : ℕ} (e : Elements n s t) where
  pub subsus_u-form : subsus_u n s t ≡ min (s + top n - flip n t) (2 ^ n - 1)
  unfolding subsus_u
  subsus_u-form = sat-view n size Unsigned (diff-minus (diff-pos s) (value-diff n size Signed e.second)) ∙ omega arith

  pub subsuu_s-form : subsuu_s n s t ≡ flip n (min (s + top n - t) (2 ^ n - 1))
  unfolding subsuu_s
  subsuu_s-form = sat-view n size Signed (diff-minus (diff-pos s) (diff-pos t)) ∙ ap (flip n) (omega arith)

module _ (n : ℕ) (size : Size n) (g : Reading) {s t : ℕ} (e : Elements n s t) where
  first : Diff (value g n s) (view g n s) (bias g n)
  first = value-diff n size g e.first

  second : Diff (value g n t) (view g n t) (bias g n)
  second = value-diff n size g e.second

  pub adds-form : adds g n s t ≡ view g n (min (view g n s + view g n t - bias g n) (2 ^ n - 1))
  unfolding adds
  adds-form = sat-view n size g (diff-add first second) ∙ ap (view g n) (omega arith)

  pub subs-form : subs g n s t ≡ view g n (min (view g n s + bias g n - view g n t) (2 ^ n - 1))
  unfolding subs
  subs-form = sat-view n size g (diff-minus first second) ∙ ap (view g n) (omega arith)

  pub asub-form : asub g n s t ≡ (view g n s - view g n t) + (view g n t - view g n s)
  unfolding asub
  asub-form = diff-abs (diff-minus first second) ∙ omega arith

  pub average-form : (more : ℕ) → more < 2 → average g n more s t ≡ view g n ((view g n s + view g n t + more) / 2)
  unfolding average
  average-form more small =
      wrap-view n size g _
      (diff-shr {a = view g n s + view g n t + more} {b = bias g n} 2 (omega arith)
      (diff-to (diff-add (diff-add first second) (diff-pos more)) (omega arith)))
      (omega arith)
      (omega (arith, view-below n size g e.first, view-below n size g e.second))

  pub larger-form : larger (value g n) s t ≡ cond (ltb (view g n t) (view g n s)) s t
  unfolding larger
  larger-form = ap (λ b. cond b s t) (less-view n size g (record { first = e.second; second = e.first }))

  pub smaller-form : smaller (value g n) s t ≡ cond (ltb (view g n s) (view g n t)) s t
  unfolding smaller
  smaller-form = ap (λ b. cond b s t) (less-view n size g e)
