-- `parallel_products::dot::extended` meets its contract. The order view of a half.
use Rattle.parallel_products.proofs.Dots.{extended-is}
use Rattle.parallel_products.proofs.dot.extended.Goals as goal

pub returns : goal.returns
returns c = extended-is c.args.w c.args.g c.sign-h.ensures c.requires
