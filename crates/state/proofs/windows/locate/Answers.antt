-- `state::windows::locate`: each arm puts what was answered into the definition.
use Rattle.state.proofs.windows.locate.Goals as goal

pub returns-in-Some : goal.returns-in-Some
returns-in-Some c = rw (← c.find.ensures, c.in-Some.is)
