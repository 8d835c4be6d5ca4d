-- `entry::block::order_of` meets its contract, test by test: behind the end of a short block there is no byte, which
use native.Mathlib.Omega.{arith}
use borrow.Author.Tests.{ne_eqb}
use lib.ListN.{get_or-eq_default}
use Rattle.entry.specs.Block.{ordered}
use Rattle.entry.proofs.block.order_of.Goals as goal

-- reads as 0. Assumes nothing.
pub returns-then-b-lt24 : goal.returns-then-b-lt24
unfolding ordered
returns-then-b-lt24 c = rw (get_or-eq_default c.args.b.now 0 {n = 23} (omega arith))

pub returns-then-b-eq1 : goal.returns-then-b-eq1
unfolding ordered
returns-then-b-eq1 c = rw c.if-b-eq1.true

pub returns-else-b-eq1 : goal.returns-else-b-eq1
unfolding ordered
returns-else-b-eq1 c = rw (ne_eqb _ _ c.if-b-eq1.false)
