-- `products::division::by_sign` meets its contract. -m is the low bits of 2^64 - m.
use Rattle.std.proofs.Common.{◌∙◌}
use Rattle.element.proofs.Widths.{size}
use Rattle.isa.specs.Widths.{bits}
use Rattle.products.proofs.Quotient.{minus-low, plus-is}
use Rattle.products.proofs.division.by_sign.Goals as goal

pub returns-then-minus : goal.returns-then-minus
returns-then-minus c = c.low.ensures ∙ minus-low c.args.w _ c.args.m c.if-minus.true c.wrapping_neg.ensures

pub returns-else-minus : goal.returns-else-minus
returns-else-minus c = plus-is (bits c.args.w) (size c.args.w) c.if-minus.false c.requires
