-- `state::setup::later`: a row that is broken is the first, or the rest of the table answers.
use Rattle.state.proofs.SetupLaws.{here, next, last}
use Rattle.std.proofs.lemmas.Result.{err_from_is_err_and}
use Rattle.state.proofs.setup.later.Goals as goal

pub returns-in_err-unless : goal.returns-in_err-unless
returns-in_err-unless c =
    let p = err_from_is_err_and c.from_residual.result c.from_residual.ensures.1 in
    rw (p.1, p.2, ← c.program_bad.ensures)
    (here _ _ _ _ c.in_err-unless.ensures)

pub returns-in_err-unless-2 : goal.returns-in_err-unless-2
returns-in_err-unless-2 c =
    let p = err_from_is_err_and c.from_residual-in_err-unless-2.result c.from_residual-in_err-unless-2.ensures.1 in
    rw (p.1, p.2, ← c.program_bad.ensures, ← c.window_bad.ensures, ← c.window_bad-2.ensures)
    (next _ _ _ _ c.in_ok-unless.ensures (here _ _ _ _ c.in_err-unless-2.ensures))

pub returns-in_err-unless-3 : goal.returns-in_err-unless-3
returns-in_err-unless-3 c =
    let p = err_from_is_err_and c.from_residual-in_err-unless-3.result c.from_residual-in_err-unless-3.ensures.1 in
    rw (p.1, p.2, ← c.program_bad.ensures, ← c.window_bad.ensures, ← c.window_bad-2.ensures, ← c.windows_share-shared.ensures)
    (next _ _ _ _ c.in_ok-unless.ensures (next _ _ _ _ c.in_ok-unless-2.ensures (here _ _ _ _ c.in_err-unless-3.ensures)))

pub returns : goal.returns
returns c =
    rw (
      ← c.program_bad.ensures,
      ← c.window_bad.ensures,
      ← c.window_bad-2.ensures,
      ← c.windows_share-shared.ensures,
      ← c.eight.ensures,
      ← c.state_bad.ensures,
    )
    (next _ _ _ _ c.in_ok-unless.ensures (next _ _ _ _ c.in_ok-unless-2.ensures (next _ _ _ _ c.in_ok-unless-3.ensures (last _ _ _ c.unless-4.ensures))))
