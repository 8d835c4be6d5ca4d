-- `products::division::negative` meets its contract. The sign is the test on the top bit.
use Rattle.element.proofs.Diff.{leb-not}
use Rattle.isa.specs.Widths.{bits}
use Rattle.products.proofs.Quotient.{sign}
use Rattle.std.proofs.Common.{not, ltb, sym, ap, ◌∙◌}
use Rattle.products.proofs.division.negative.Goals as goal

pub returns-in-Signed : goal.returns-in-Signed
returns-in-Signed c = let start = c in
    rw (c.in-Signed.is, sign (bits start.args.w) start.args.x start.requires)
    (sym (leb-not c.half.result start.args.x) ∙ ap (λ h. not (ltb start.args.x h)) c.half.ensures)
