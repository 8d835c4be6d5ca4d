-- `parallel::wrapping::difference` meets its contract. With the top bits set no element borrows from the next.
use borrow.Author.Rules.{rules}
use native.Mathlib.Omega.{arith}
use Rattle.element.proofs.Widths.{size}
use Rattle.isa.specs.Widths.{bits}
use Rattle.vectors.proofs.Sizes.{shares}
use Rattle.parallel.proofs.Words.{own, fits, same-lanes, and-lanes, xor-lanes}
use Rattle.parallel.proofs.TopBit.{subv-lane}
use Rattle.parallel.proofs.Masked.{gap-lanes, gap-fits}
use Rattle.parallel.proofs.wrapping.difference.Goals as goal

pub overflow_sub-result : goal.overflow_sub-result
overflow_sub-result c = let a = c.args in let own = own (shares a.w) in
    let h = gap-fits a.w (own a.s (search rules)) (own a.t (search rules)) c.tops-h.ensures c.lows.ensures in
    omega (arith, h)

pub returns : goal.returns
returns c = let a = c.args in let share = shares a.w in
    let s = own share a.s (search rules) in
    let t = own share a.t (search rules) in
    let top = c.tops-h.ensures in
    same-lanes share
    (xor-lanes share (gap-lanes a.w s t top c.lows.ensures)
    (and-lanes share (xor-lanes share s c.inverse.ensures) top))
    (λ i l. subv-lane (bits a.w) (size a.w) (fits share s i l) (fits share t i l))
