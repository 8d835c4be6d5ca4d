-- `entries::immediates::times` meets its contract.
use Rattle.products.specs.Products.{mulv}
use Rattle.products.proofs.Halves.{below-square}
use Rattle.products.proofs.Ring.{like-pos, like-wrap, wrap-mul}
use Rattle.std.proofs.Common.{rules}
use Rattle.entries.proofs.immediates.times.Goals as goal

pub overflow_mul-result : goal.overflow_mul-result
overflow_mul-result c = record { fits = below-square 32 c.signed.ensures.1 (search rules) }

pub returns : goal.returns
unfolding mulv
returns c = rw (c.signed.ensures.0, wrap-mul (like-wrap 32 _) (like-pos 32 _))
