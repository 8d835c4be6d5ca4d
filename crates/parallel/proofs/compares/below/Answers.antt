-- `parallel::compares::below` meets its contract. The views keep the order.
use borrow.Author.Rules.{rules}
use Rattle.element.proofs.Widths.{size}
use Rattle.isa.specs.Widths.{bits}
use Rattle.vectors.proofs.Sizes.{shares}
use Rattle.parallel.proofs.Words.{own, fits}
use mathlib.Core.Path.{sym, ◌∙◌}
use Rattle.element.proofs.Readings.{less-view}
use Rattle.parallel.proofs.Tested.{order-of}
use Rattle.parallel.proofs.compares.below.Goals as goal

pub returns : goal.returns
returns c =
    let a = c.args in
    let share = shares a.w in
    let s = own share a.s (search rules) in
    let t = own share a.t (search rules) in
    record {
      answer = λ i l.
          (order-of c.compared.ensures c.viewed.ensures c.viewed-2.ensures).answer i l
          ∙ sym (less-view (bits a.w) (size a.w) a.g
          (record { first = fits share s i l; second = fits share t i l }));
    }
