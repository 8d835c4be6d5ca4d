-- `parallel_products::product::msubv` meets its contract. Every element is an element's operation.
use Rattle.std.proofs.Common.{rules, arith}
use Rattle.products.proofs.Below.{msubv-below}
use Rattle.parallel_products.proofs.product.msubv.Goals as goal

pub built-requires-clause-fits : goal.built-requires-clause-fits
built-requires-clause-fits c = λ i e l p. grind (arith, msubv-below)

pub returns : goal.returns
returns c = record { below = search rules; at = λ i l. let e = c.built.ensures i l in search rules }
