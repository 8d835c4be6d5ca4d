-- `plan::moves::store`: each arm puts what `locate` answered into the definition.
use Rattle.plan.specs.declared.Plan.TheVariants.{Store}
use Rattle.isa.specs.Widths.{bytes}
use Rattle.order.proofs.TurnLaws.{turned-held}
use mathlib.Core.Path.{ap, ◌∙◌}
use Rattle.plan.proofs.moves.store.Goals as goal

pub returns-in-Table : goal.returns-in-Table
returns-in-Table c = rw (← c.locate.ensures, c.in-Table.is)

pub returns-in-Work : goal.returns-in-Work
returns-in-Work c =
    let s = c in
    let a = s.args in
    rw (← s.locate.ensures, c.in-Work.is)
    (ap (Store a.a)
    (c.turn.ensures ∙ turned-held a.board.order (bytes a.df) c.read_register.ensures))

pub returns-in-Outside : goal.returns-in-Outside
returns-in-Outside c = rw (← c.locate.ensures, c.in-Outside.is)
