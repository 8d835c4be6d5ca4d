-- `parallel::wrapping::sum` meets its contract. The sum of the bits below the top bits has no carry out of an element.
use borrow.Author.Rules.{rules}
use native.Mathlib.Omega.{arith}
use Rattle.element.proofs.Widths.{size}
use Rattle.isa.specs.Widths.{bits}
use Rattle.vectors.proofs.Sizes.{shares}
use Rattle.parallel.proofs.Words.{own, fits, same-lanes, and-lanes, xor-lanes}
use Rattle.parallel.proofs.TopBit.{addv-lane}
use Rattle.parallel.proofs.Masked.{low_sum}
use Rattle.parallel.proofs.wrapping.sum.Goals as goal

pub overflow_add-result : goal.overflow_add-result
overflow_add-result c =
    let a = c.args in
    let own = own (shares a.w) in
    omega (arith, (low_sum a.w (own a.s (search rules)) (own a.t (search rules)) c.lows-m.ensures).below)

pub returns : goal.returns
returns c =
    let a = c.args in
    let share = shares a.w in
    let s = own share a.s (search rules) in
    let t = own share a.t (search rules) in
    same-lanes share
    (xor-lanes share (low_sum a.w s t c.lows-m.ensures)
    (and-lanes share (xor-lanes share s t) c.tops.ensures))
    (λ i l. addv-lane (bits a.w) (size a.w) (fits share s i l) (fits share t i l))
