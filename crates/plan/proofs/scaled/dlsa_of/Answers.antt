-- `plan::scaled::dlsa_of`: the sum of the product.
use Rattle.plan.proofs.NumberLaws.{mul-add}
use Rattle.plan.specs.Numbers.{dlsa}
use Rattle.plan.proofs.scaled.dlsa_of.Goals as goal

pub returns : goal.returns
unfolding dlsa
returns c = rw (c.addv.ensures, c.mulv.ensures, ← c.factor.ensures) (mul-add 64 _ _ _)
