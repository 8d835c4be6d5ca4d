-- `machine::advance::advance`: each way out puts what the calls answered into the definition.
use Rattle.machine.proofs.StepLaws.{stopped-is}
use Rattle.machine.specs.Step.{step_of, unread_stop, stopped_with}
use Rattle.reading.proofs.Said.{read_is}
use Rattle.state.proofs.Said.{fetched-is}
use Rattle.words.proofs.Answers.{read-formed}
use Rattle.std.proofs.Common.{sym, ap, ◌∙◌, rules}
use Rattle.machine.proofs.advance.advance.Goals as goal

pub returns-in_default : goal.returns-in_default
unfolding step_of
returns-in_default c =
    rw (← fetched-is c.word_at.ensures, c.in_default.is)
    (stopped-is _ _ _ c.stopped.ensures)

pub returns-in_default-reading : goal.returns-in_default-reading
unfolding step_of
returns-in_default-reading c =
    let read = c in
    let word = read in
    let told = c.in_default-reading.is in
    let stop = c.unread_stop.ensures ∙ ap unread_stop told in
    let at = word.args.c in
    rw (
      ← fetched-is word.word_at.ensures,
      word.in-Some.is,
      ← read_is read.read_word-reading.ensures,
      told,
    )
    (stopped-is _ _ _ (c.stopped-in_default-reading.ensures ∙ ap (λ s. stopped_with s at) stop))

pub act-requires : goal.act-requires
act-requires c =
    let told = c in
    let read = told in
    let f = read-formed read.in-Some.w _ (search rules)
    (sym (read_is read.read_word-reading.ensures) ∙ told.in-Ok.is)
    in
    search rules

pub returns : goal.returns
unfolding step_of
returns c =
    let acted = c in
    let told = acted in
    let word = told in
    rw (
      ← fetched-is word.word_at.ensures,
      word.in-Some.is,
      ← read_is told.read_word-reading.ensures,
      told.in-Ok.is,
    )
    acted.act.ensures
