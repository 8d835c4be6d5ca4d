-- `listed::off::turns_off`. The invariant is that of `turns`: it meets its contract.
use Rattle.std.proofs.Common.{◌≡◌, ℕ, ◌-◌, ◌≤◌, false, List, length}
use Rattle.listed.specs.Turn.{Reads}
use Rattle.machine.proofs.RunLaws.{Sofar}
use Rattle.machine.specs.Run.{runs}
use Rattle.state.specs.Machine.{env, machine}
use Rattle.listed.proofs.off.turns_off.Given as goal

abbrev pub invariant-loop-count : goal.invariant-loop-count
invariant-loop-count l = (l.control.on ≡ false)
    × ((p t v w : List ℕ) → Reads l.board.program l.words p l.list
    → Sofar p (env l.board t) l.budget l.count (machine v l.generals w l.control)
    (runs p (env l.board t) l.budget (machine v l.initial.generals w l.initial.control)))
