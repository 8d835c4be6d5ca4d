-- `order::exchanged`: a mask, and two shifts by whole bytes. Assumes nothing.
use borrow.Author.Rules.{rules}
use Rattle.order.proofs.MovedLaws.{exchanges}
use Rattle.order.proofs.exchanged.Goals as goal

pub returns : goal.returns
returns c = exchanges c.args.x c.args.n c.args.m c.requires.0 c.requires.2 (search rules)
