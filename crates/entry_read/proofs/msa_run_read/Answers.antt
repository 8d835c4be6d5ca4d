-- `entry_read::msa_run_read` meets its contract, by what the engine answers.
use Rattle.std.proofs.Common.{refl}
use Rattle.entry_read.proofs.ReadLaws.{ran-to, short-to}
use Rattle.entry_read.proofs.msa_run_read.Goals as goal

pub returns-in_default : goal.returns-in_default
returns-in_default c =
    rw (← c.control_of-c.ensures, ← c.board_of-board.ensures) (short-to _ _ _ _ _ _ _ c.in_default.ensures refl)

pub returns : goal.returns
returns c =
    rw (← c.control_of-c.ensures, ← c.board_of-board.ensures)
    (ran-to _ _ _ _ _ _ _ c.in-Some.end _ _ c.in-Some.ensures c.reason_number.ensures c.reason_missing.ensures
    c.settle.ensures)
