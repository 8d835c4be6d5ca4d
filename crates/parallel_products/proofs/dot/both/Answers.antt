-- `parallel_products::dot::both` meets its contract. The ring view, in the low bits.
use Rattle.std.proofs.Common.{◌/◌, sym, ◌∙◌}
use lib.Bits.{and_mask}
use Rattle.isa.specs.Widths.{bits}
use Rattle.products.proofs.Halves.{dotp-form}
use Rattle.parallel_products.proofs.Dots.{sum_is}
use Rattle.parallel_products.proofs.dot.both.Goals as goal

pub returns : goal.returns
returns c =
    let a = c.args in
    let k = bits a.w / 2 in
    c.low.ensures
    ∙ sum_is a.w c.times.result c.times-2.result (rw c.count-k.ensures at c.times.ensures)
    (rw (c.pow2-half.ensures, c.count-k.ensures, and_mask a.x k, and_mask a.y k) at c.times-2.ensures)
    ∙ sym (dotp-form a.g (bits a.w) 0 a.x a.y)
