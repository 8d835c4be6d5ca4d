-- `state::windows::find`, by the three laws of `placed`.
use Rattle.state.proofs.WindowLaws.{placed_at, placed_below, placed_past}
use Rattle.std.proofs.Common.{sym, arith}
use Rattle.state.proofs.windows.find.Goals as goal

pub returns-then-a-base : goal.returns-then-a-base
returns-then-a-base c =
    let a = c.args in
    sym (placed_below a.base a.len a.a (omega arith))

pub returns-then-len-lt16 : goal.returns-then-len-lt16
returns-then-len-lt16 c =
    let a = c.args in
    sym (placed_past a.base a.len a.a (omega arith))

pub returns-then-d-len : goal.returns-then-d-len
returns-then-d-len c =
    let a = c.args in
    sym (placed_at a.base a.len a.a (omega arith) (omega arith))

pub returns-else-d-len : goal.returns-else-d-len
returns-else-d-len c =
    let a = c.args in
    sym (placed_past a.base a.len a.a (omega arith))
