-- `parallel::means::mean_up` meets its contract. No half and no carry leaves its element.
use borrow.Author.Rules.{rules}
use native.Mathlib.Omega.{arith}
use Rattle.vectors.proofs.Sizes.{shares}
use Rattle.parallel.proofs.Halves.{half-lanes, mean-up}
use Rattle.parallel.proofs.means.mean_up.Goals as goal

pub overflow_add-result-2 : goal.overflow_add-result-2
overflow_add-result-2 c = let p = c in let a = p.args in omega (
  arith,
  (mean-up a.w a.s a.t
      (search rules) (search rules) p.halved.ensures c.halved-2.ensures c.units.ensures).below,
)

pub overflow_add-result : goal.overflow_add-result
overflow_add-result c = let a = c.args in omega (
  arith,
  (half-lanes (shares a.w) a.s a.t
      c.halved.ensures c.halved-2.ensures).below,
)

pub returns : goal.returns
returns c = search (rules, mean-up)
