-- An answer, and the control block that a step leaves where it was lent.
use Rattle.state.specs.declared.control.Control.{Control}
use Rattle.std.specs.Prelude.{Result, ⊤}
use Rattle.state.specs.declared.stops.Stop.{Stop}
use Rattle.state.specs.declared.setup.Refusal.{Refusal}
use Rattle.machine.specs.declared.step.Answered.{Answered}

abbrev pub answered : Result (Result ⊤ Stop) Refusal → Control → Answered
answered a c = record { answer = a; control = c }
