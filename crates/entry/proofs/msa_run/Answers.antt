-- `entry::msa_run` meets its contract, by what the run answers.
use Rattle.entry.proofs.EntryLaws.{runs_to}
use Rattle.entry.proofs.msa_run.Goals as goal

pub returns : goal.returns
returns c =
    let settled = c in
    let ran = settled in
    let read = ran in
    rw (← read.control_of-c.ensures, ← read.board_of-board.ensures)
    (runs_to _ _ _ _ _ _ _ _ _ ran.run-end.ensures c.reason_number.ensures c.reason_missing.ensures
    settled.settle.ensures)
