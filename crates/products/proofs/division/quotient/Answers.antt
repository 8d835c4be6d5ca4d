-- `products::division::quotient` meets its contract. By sign and absolute value.
use Rattle.std.proofs.Common.{◌≡◌, not, ap, ◌∙◌, arith}
use lib.Signed.{non_neg}
use Rattle.element.specs.Value.{value}
use Rattle.element.proofs.Widths.{size}
use Rattle.isa.specs.Widths.{bits}
use Rattle.products.proofs.Quotient.{amount-some, not-not, quotient-form, quotient-zero}
use Rattle.products.proofs.division.quotient.Goals as goal

pub returns-then-t-eq0 : goal.returns-then-t-eq0
returns-then-t-eq0 c =
    let start = c in
    let v = value start.args.g (bits start.args.w) start.args.s in
    let sign : not c.negative.result ≡ non_neg v =
    ap not c.negative.ensures ∙ not-not (non_neg v)
    in
    rw (quotient-zero _ _ _ _ c.if-t-eq0.true, ← sign) c.by_sign.ensures

pub nonzero_div-amount : goal.nonzero_div-amount
nonzero_div-amount c = let start = c in let w = start.args.w in
    omega (arith, amount-some (bits w) (size w) start.args.g start.requires.second c.if-t-eq0.false)

pub returns : goal.returns
returns c = cc (quotient-form _ _ _ _ c.if-t-eq0.false)
