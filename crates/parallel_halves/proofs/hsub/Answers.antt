-- `parallel_halves::hsub` meets its contract. The differences of the halves, or of their views (Sides).
use Rattle.parallel_halves.proofs.Sides.{high_small, low_small, apart-unsigned, turned-small, apart-signed}
use Rattle.parallel_halves.proofs.hsub.Goals as goal

pub apart-requires : goal.apart-requires
apart-requires c =
    let high = c in
    let a = high.args in
    λ i l. record {
      first = high_small a.w a.s high.high_half.ensures i l;
      second = low_small a.w a.t c.low_half.ensures i l;
    }

pub turned-requires : goal.turned-requires
turned-requires c = let a = c.args in high_small a.w a.s c.high_half-in-Signed.ensures

pub apart-requires-in-Signed : goal.apart-requires-in-Signed
apart-requires-in-Signed c =
    let low = c in
    let first = low in
    let high = first in
    let a = high.args in
    turned-small a.w a.s a.t high.high_half-in-Signed.ensures low.low_half-in-Signed.ensures first.turned.ensures
    c.turned-in-Signed.ensures

pub returns-in-Unsigned : goal.returns-in-Unsigned
returns-in-Unsigned c =
    let low = c in
    let high = low in
    let told = high in
    let a = told.args in
    rw told.in-Unsigned.is
    (apart-unsigned a.w a.s a.t high.high_half.ensures low.low_half.ensures c.apart.ensures)

pub returns-in-Signed : goal.returns-in-Signed
returns-in-Signed c =
    let second = c in
    let low = second in
    let first = low in
    let high = first in
    let told = high in
    let a = told.args in
    rw told.in-Signed.is
    (apart-signed a.w a.s a.t high.high_half-in-Signed.ensures low.low_half-in-Signed.ensures first.turned.ensures
    second.turned-in-Signed.ensures c.apart-in-Signed.ensures)
