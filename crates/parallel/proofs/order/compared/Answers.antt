-- `parallel::order::compared` meets its contract. The carry of each element.
use borrow.Author.Rules.{rules}
use native.Mathlib.Omega.{arith}
use Rattle.element.proofs.Widths.{size}
use Rattle.isa.specs.Widths.{bits}
use Rattle.vectors.proofs.Sizes.{shares}
use Rattle.parallel.proofs.Words.{own, fits, and-lanes, or-lanes}
use Rattle.parallel.proofs.Tested.{compared-lane}
use Rattle.parallel.proofs.Masked.{gap-lanes, gap-fits}
use mathlib.Core.Path.{ap, ◌∙◌}
use lib.Dec.{ltb}
use Rattle.element.specs.Value.{top}
use Rattle.parallel.proofs.order.compared.Goals as goal

pub overflow_sub-gap : goal.overflow_sub-gap
overflow_sub-gap c = let a = c.args in let own = own (shares a.w) in
    let h = gap-fits a.w (own a.x (search rules)) (own a.y (search rules)) c.tops.ensures c.lows.ensures in
    omega (arith, h)

pub returns : goal.returns
returns c = let a = c.args in let share = shares a.w in
    let x = own share a.x (search rules) in
    let y = own share a.y (search rules) in
    let n = c.inverse-n.ensures in
    let gap = gap-lanes a.w x y c.tops.ensures c.lows.ensures in
    let all = or-lanes share (and-lanes share x n) (and-lanes share (or-lanes share x n) gap) in
    record {
      answer = λ i l. ap (λ z. ltb z (top (bits a.w))) (all.at i l)
          ∙ compared-lane (bits a.w) (size a.w) (fits share x i l) (fits share y i l);
    }
