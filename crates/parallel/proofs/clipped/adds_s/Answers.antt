-- `parallel::clipped::adds_s` meets its contract. The sign of what wraps says where the range was left.
use borrow.Author.Rules.{rules}
use mathlib.Core.Path.{refl}
use Rattle.parallel.proofs.Limits.{adds-lanes}
use Rattle.parallel.proofs.clipped.adds_s.Goals as goal

pub returns : goal.returns
returns c = let p = c in let a = p.args in
    adds-lanes a.w a.s a.t (search rules) (search rules) (search rules) c.limit.ensures
    c.picked.ensures refl p.addv-r.ensures
