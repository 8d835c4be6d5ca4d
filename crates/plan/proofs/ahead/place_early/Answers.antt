-- `plan::ahead::place_early`: each arm puts what `locate` answered into the definition.
use Rattle.plan.proofs.ahead.place_early.Goals as goal

pub returns-in-Table : goal.returns-in-Table
returns-in-Table c =
    rw (← c.locate.ensures, c.in-Table.is) c.table_early.ensures

pub returns-in-Work : goal.returns-in-Work
returns-in-Work c = rw (← c.locate.ensures, c.in-Work.is)

pub returns-in-Outside : goal.returns-in-Outside
returns-in-Outside c = rw (← c.locate.ensures, c.in-Outside.is)
