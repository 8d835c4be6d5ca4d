-- `parallel_products::dot::times` meets its contract. The low bits of a product are those of the low bits.
use Rattle.parallel_products.proofs.Dots.{product_is}
use Rattle.parallel_products.proofs.dot.times.Goals as goal

pub returns : goal.returns
returns c = product_is c.args.w _ _ c.extended.ensures c.extended-2.ensures
