-- `plan::moves::load`: each arm puts what `locate` answered into the definition.
use Rattle.plan.specs.declared.Plan.TheVariants.{Vector}
use Rattle.isa.specs.Widths.{bytes}
use Rattle.order.proofs.TurnLaws.{turned-held}
use Rattle.state.proofs.WindowLaws.{spot-table, spot-work}
use borrow.Author.Rules.{rules}
use mathlib.Core.Path.{sym, ap, ◌∙◌}
use Rattle.plan.proofs.moves.load.Goals as goal

pub sixteen-requires : goal.sixteen-requires
sixteen-requires c =
    let held = spot-table c.args.board _ _ _ _
    (sym c.locate.ensures ∙ c.in-Table.is)
    in
    search rules

pub sixteen-requires-in-Work : goal.sixteen-requires-in-Work
sixteen-requires-in-Work c =
    let held = spot-work c.args.board _ _ _ _
    (sym c.locate.ensures ∙ c.in-Work.is)
    in
    search rules

pub returns-in-Table : goal.returns-in-Table
returns-in-Table c =
    let s = c in
    let a = s.args in
    rw (← s.locate.ensures, c.in-Table.is)
    (ap (Vector a.wd)
    (c.turn.ensures ∙ turned-held a.board.order (bytes a.df) c.sixteen.ensures))

pub returns-in-Work : goal.returns-in-Work
returns-in-Work c =
    let s = c in
    let a = s.args in
    rw (← s.locate.ensures, c.in-Work.is)
    (ap (Vector a.wd)
    (c.turn-in-Work.ensures ∙ turned-held a.board.order (bytes a.df) c.sixteen-in-Work.ensures))

pub returns-in-Outside : goal.returns-in-Outside
returns-in-Outside c = rw (← c.locate.ensures, c.in-Outside.is)
