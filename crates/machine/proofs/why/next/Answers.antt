-- `machine::why::next`: the word that was fetched, and the outcome that `ahead` finds.
use Rattle.machine.proofs.AheadLaws.{step-ends}
use Rattle.machine.specs.Why.{next_of}
use Rattle.state.proofs.Said.{fetched-is}
use Rattle.machine.proofs.why.next.Goals as goal

pub returns : goal.returns
unfolding next_of
returns c =
    let ends = c in
    let word = ends in
    let a = word.args in
    rw (
      step-ends a.board a.table.now a.vectors.now a.generals.now a.work.now a.c a.program.now,
      ← ends.end_of.ensures,
      ← fetched-is word.word_at.ensures,
      ← ends.unwrap_or-word.ensures,
    )
    c.cause_of.ensures
