-- `state::windows::missing_of`, by the two laws of `missing`.
use Rattle.std.proofs.Common.{sym, ◌∙◌}
use Rattle.state.proofs.WindowLaws.{missing-table, missing-other}
use Rattle.state.proofs.windows.missing_of.Goals as goal

pub returns-then-lies_in : goal.returns-then-lies_in
returns-then-lies_in c =
    let a = c.args in
    let lies = sym c.lies_in.ensures ∙ c.if-lies_in.true in
    c.first_outside.ensures ∙ sym (missing-table a.board a.table a.work a.a lies)

pub returns : goal.returns
returns c =
    let a = c.args in
    let lies = sym c.lies_in.ensures ∙ c.if-lies_in.false in
    c.first_outside-2.ensures ∙ sym (missing-other a.board a.table a.work a.a lies)
