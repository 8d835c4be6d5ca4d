-- `entry::msa_why` meets its contract, by what the machine answers.
use Rattle.entry.proofs.EntryLaws.{explains}
use Rattle.entry.proofs.msa_why.Goals as goal

pub returns : goal.returns
returns c =
    let ran = c in
    let read = ran in
    rw (← read.control_of-c.ensures, ← read.board_of-board.ensures)
    (explains _ _ _ _ ran.why-y.ensures c.answer_number.ensures c.answer_kind.ensures)
