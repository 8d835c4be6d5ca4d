-- `listed::turns::turns`. The invariant is the plain engine's, of every
-- program that the list has read: it meets its contract.
use Rattle.std.proofs.Common.{◌≡◌, ℕ, ◌-◌, ◌≤◌, true, List, length}
use Rattle.listed.specs.Turn.{Reads}
use Rattle.machine.proofs.RunLaws.{Sofar}
use Rattle.machine.specs.Run.{runs}
use Rattle.state.specs.Machine.{env, machine}
use Rattle.listed.proofs.turns.turns.Given as goal

abbrev pub invariant-loop-count : goal.invariant-loop-count
invariant-loop-count l = (l.control.on ≡ true)
    × ((p : List ℕ) → Reads l.board.program l.words p l.list
    → Sofar p (env l.board l.table) l.budget l.count (machine l.vectors l.generals l.work l.control)
    (runs p (env l.board l.table) l.budget (machine l.initial.vectors l.initial.generals l.initial.work l.initial.control)))
