-- `entry::block::write_block` meets its contract: three words are written side by side, and the
use Rattle.entry.proofs.BlockLaws.{three-words}
use borrow.Author.Rules.{rules}
use Rattle.entry.proofs.block.write_block.Goals as goal

-- order that the block had is in the last. Assumes nothing.
pub returns : goal.returns
returns c =
    let put = c in
    let named = put in
    let start = named in
    cc (three-words start.args.b.now named.order_of-order.result start.args.c start.requires (search rules))
