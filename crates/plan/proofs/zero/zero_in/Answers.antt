-- `plan::zero::zero_in`: the top bit of an element of the test is clear where 0 is below the element.
use Prim.Native.Nat.{◌*◌, ◌/◌}
use Rattle.element.proofs.Widths.{size}
use Rattle.element.specs.Value.{top}
use Rattle.isa.specs.Widths.{bits}
use Rattle.parallel.proofs.Tested.{nonzero-lane, top-test}
use Rattle.parallel.proofs.Words.{and-lanes, built, fits, own}
use Rattle.plan.proofs.ZeroLaws.{some-mark}
use Rattle.vectors.proofs.ElementLaws.{element-beyond}
use Rattle.vectors.proofs.Sizes.{shares}
use Rattle.vectors.specs.Register.{element}
use borrow.Author.Rules.{rules}
use lib.Bits.{bit_and}
use lib.Dec.{eqb, ltb}
use lib.Pow.{pow_pos}
use mathlib.Core.Bool.{not}
use mathlib.Core.Path.{ap, ◌∙◌}
use Rattle.plan.proofs.zero.zero_in.Goals as goal

pub returns : goal.returns
returns c =
    let a = c.args in
    let n = bits a.w in
    let share = shares a.w in
    let z = c.compared.result in
    let test = own share z (search rules) in
    ap (λ y. not (eqb y 0)) (built share (and-lanes share test c.tops.ensures))
    ∙ some-mark n a.x (λ i. bit_and (element n z i) (top n)) (64 / n)
    (λ i l. top-test n (size a.w) (fits share test i l)
    ∙ c.compared.ensures.answer i l
    ∙ ap (λ y. ltb y (element n a.x i)) (element-beyond n 0 i (pow_pos (n * i)))
    ∙ nonzero-lane (element n a.x i))
