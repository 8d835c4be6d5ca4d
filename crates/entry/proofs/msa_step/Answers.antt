-- `entry::msa_step`: a run of one instruction is a step.
use Rattle.entry.proofs.EntryLaws.{steps-to}
use Rattle.entry.proofs.msa_step.Goals as goal

pub returns : goal.returns
returns c =
    let ran = c in
    rw c.step_reason.ensures (steps-to _ _ _ _ _ _ _ _ _ ran.msa_run-e.ensures)
