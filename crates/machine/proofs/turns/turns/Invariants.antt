-- `machine::turns::turns`. The invariant: the run so far and the run that is left are the whole run.
use Rattle.machine.proofs.RunLaws.{Sofar}
use Rattle.machine.specs.Run.{runs}
use Rattle.state.specs.Machine.{env, machine}
use Rattle.machine.proofs.turns.turns.Given as goal

abbrev pub invariant-loop-count : goal.invariant-loop-count
invariant-loop-count l =
    Sofar l.program (env l.board l.table) l.budget l.count (machine l.vectors l.generals l.work l.control)
    (runs l.program (env l.board l.table) l.budget
    (machine l.initial.vectors l.initial.generals l.initial.work l.initial.control))
