-- `parallel_products::dot::sums` meets its contract. Every element is an element's operation.
use Rattle.std.proofs.Common.{rules, arith}
use Rattle.parallel_products.proofs.Dots.{dotp-below}
use Rattle.parallel_products.proofs.dot.sums.Goals as goal

pub built-requires-clause-fits : goal.built-requires-clause-fits
built-requires-clause-fits c = λ i e l p. grind (arith, dotp-below)

pub returns : goal.returns
returns c = record { below = search rules; at = λ i l. let e = c.built.ensures i l in search rules }
