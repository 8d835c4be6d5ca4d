-- `reading::classes::no_instr` meets its contract.
use borrow.Author.Tests.{eq-eqb, ne_eqb}
use Rattle.reading.proofs.classes.no_instr.Goals as goal

pub returns-then-w-eq30 : goal.returns-then-w-eq30
returns-then-w-eq30 c = rw (eq-eqb _ _ c.if-w-eq30.true)

pub returns : goal.returns
returns c = rw (ne_eqb _ _ c.if-w-eq30.false)
