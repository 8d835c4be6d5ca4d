-- `products::division::remainder` meets its contract. By sign and absolute value.
use Rattle.std.proofs.Common.{◌≡◌, not, sym, arith}
use lib.Signed.{non_neg}
use Rattle.element.specs.Value.{value}
use Rattle.element.proofs.Widths.{size}
use Rattle.isa.specs.Widths.{bits}
use Rattle.products.proofs.Quotient.{amount-some, remainder-form, remainder-zero}
use Rattle.products.proofs.division.remainder.Goals as goal

pub nonzero_rem-amount : goal.nonzero_rem-amount
nonzero_rem-amount c = let start = c in let w = start.args.w in
    omega (arith, amount-some (bits w) (size w) start.args.g start.requires.second c.if-t-eq0.false)

pub returns : goal.returns
returns c =
    let start = c in
    let minus = c.negative in
    let sign : minus.result ≡ not (non_neg (value start.args.g (bits start.args.w) start.args.s)) = minus.ensures in
    rw (remainder-form _ _ _ _ c.if-t-eq0.false, ← sign, ← c.amount.ensures.is, ← c.amount-2.ensures.is)
    c.by_sign.ensures

pub returns-then-t-eq0 : goal.returns-then-t-eq0
returns-then-t-eq0 c = sym (remainder-zero _ _ _ _ c.requires.first c.if-t-eq0.true)
