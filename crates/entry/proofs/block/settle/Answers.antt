-- `entry::block::settle` meets its contract, test by test.
use borrow.Author.Tests.{eq-eqb, ne_eqb}
use Rattle.entry.specs.Block.{written}
use Rattle.entry.proofs.block.settle.Goals.{else-finished-via-then-finished+else-b-eq24, else-finished-via-else-finished}
use Rattle.entry.proofs.block.settle.Goals as goal

pub returns-then-b-eq24 : goal.returns-then-b-eq24
unfolding written
returns-then-b-eq24 c = rw (c.if-finished.true, eq-eqb _ _ c.if-b-eq24.true) c.write_block.ensures

pub returns-else-finished : goal.returns-else-finished
unfolding written
returns-else-finished c = elim c.else-finished.branch [
  | else-finished-via-then-finished+else-b-eq24 w ↦ rw (w.if-finished.true, ne_eqb _ _ w.if-b-eq24.false)
  | else-finished-via-else-finished w ↦ rw w.if-finished.false
]
