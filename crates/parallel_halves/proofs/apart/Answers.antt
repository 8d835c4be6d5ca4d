-- `parallel_halves::apart` meets its contract. With its top bit, no element of x is less than that of y.
use borrow.Author.Rules.{rules}
use mathlib.Core.Path.{ap}
use native.Mathlib.Omega.{arith}
use Prim.Native.Nat.{ℕ, ◌+◌, ◌-◌, ◌/◌, ◌^◌, ◌≤◌, ◌<◌}
use Rattle.isa.specs.declared.Width.{Width}
use Rattle.isa.specs.Widths.{bits}
use Rattle.element.specs.Elements.{Elements}
use Rattle.element.specs.Value.{top}
use Rattle.element.specs.Views.{flip}
use Rattle.vectors.specs.Register.{element}
use Rattle.vectors.proofs.Sizes.{shares}
use Rattle.parallel.specs.Lanes.{Lanes}
use Rattle.parallel.proofs.Words.{own, same-lanes, sum-lanes, minus-fits, minus-lanes}
use Rattle.parallel_halves.proofs.Parts.{top-room, apart-less}
use Rattle.parallel_halves.proofs.apart.Goals as goal

module _ (w : Width) {x y h : ℕ} (bx : x < 2 ^ 64) (by : y < 2 ^ 64) (tops : Lanes (bits w) h (λ _. top (bits w)))
    (small : (i : ℕ) → i < 64 / bits w → Elements (bits w / 2) (element (bits w) x i) (element (bits w) y i)) where
  more : Lanes (bits w) (x + h) (λ i. element (bits w) x i + top (bits w))
  more = sum-lanes (shares w) (own (shares w) x bx) tops (λ i l. top-room w (small i l).first (small i l).second)

  less : y ≤ x + h
  less = minus-fits (shares w) more (own (shares w) y by) (λ i l. apart-less w (small i l).first (small i l).second)

  rest : Lanes (bits w) (x + h - y) (λ i. element (bits w) x i + top (bits w) - element (bits w) y i)
  rest =
      minus-lanes (shares w) more (own (shares w) y by) (λ i l. apart-less w (small i l).first (small i l).second)

pub overflow_add-x : goal.overflow_add-x
overflow_add-x c =
    let start = c in
    omega (arith, (more start.args.w (search rules) (search rules) c.tops.ensures start.requires).below)

pub overflow_sub-x : goal.overflow_sub-x
overflow_sub-x c =
    let start = c in
    less start.args.w (search rules) (search rules) c.tops.ensures start.requires

pub returns : goal.returns
returns c =
    let start = c in
    let a = start.args in
    let n = bits a.w in
    let d = rest a.w (search rules) (search rules) c.tops.ensures start.requires in
    same-lanes (shares a.w) c.flipped.ensures (λ i l. ap (flip n) (d.at i l))
