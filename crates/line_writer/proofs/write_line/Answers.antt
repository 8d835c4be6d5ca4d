-- `line_writer::write_line` meets its contract.
use Rattle.listing.proofs.Lines.{refused, room, listed}
use Rattle.line_writer.proofs.write_line.Goals as goal

pub returns-then-line-ne64 : goal.returns-then-line-ne64
returns-then-line-ne64 c = refused c.args.line.now c.args.address c.args.word c.if-line-ne64.true

pub fill-requires : goal.fill-requires
fill-requires c = room c.args.line.now c.args.address c.args.word c.if-line-ne64.false

pub returns : goal.returns
returns c = listed c.args.line.now c.args.address c.args.word c.if-line-ne64.false c.fill.ensures
