-- `state::windows::lies_in`, by the two laws of `lies_in`.
use Rattle.std.proofs.Common.{sym, arith}
use Rattle.state.proofs.WindowLaws.{lies-below, lies-from}
use Rattle.state.proofs.windows.lies_in.Goals as goal

pub returns-then-x-base : goal.returns-then-x-base
returns-then-x-base c =
    let a = c.args in
    sym (lies-below a.base a.len a.x (omega arith))

pub returns : goal.returns
returns c =
    let a = c.args in
    sym (lies-from a.base a.len a.x (omega arith))
