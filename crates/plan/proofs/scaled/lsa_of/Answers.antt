-- `plan::scaled::lsa_of`: the sum of the product, extended.
use Prim.Native.Nat.{◌%◌, ◌^◌}
use Rattle.plan.proofs.NumberLaws.{mul-add, addv-below}
use Rattle.plan.specs.Numbers.{lsa}
use borrow.Author.Rules.{rules}
use Rattle.plan.proofs.scaled.lsa_of.Goals as goal

pub extend-requires : goal.extend-requires
extend-requires c =
    let below = addv-below 32 c.mulv-product.result (c.args.y % 2 ^ 32) in
    search rules

pub returns : goal.returns
unfolding lsa
returns c = cc (mul-add 32 (c.args.x % 2 ^ 32) c.factor.result (c.args.y % 2 ^ 32))
