-- `parallel_counts::paired` meets its contract. The sum of two halves has room in the whole.
use borrow.Author.Rules.{rules}
use native.Mathlib.Omega.{arith}
use Rattle.parallel_counts.proofs.Pairs.{pair-lanes}
use Rattle.parallel_counts.proofs.paired.Goals as goal

pub overflow_add-result : goal.overflow_add-result
overflow_add-result c =
    let a = c.args in
    omega (arith, (pair-lanes a.n c.requires.0 a.x a.m (search rules) c.requires.1).below)

pub returns : goal.returns
returns c =
    let a = c.args in
    pair-lanes a.n c.requires.0 a.x a.m (search rules) c.requires.1
