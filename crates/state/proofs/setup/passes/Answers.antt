-- `state::setup::passes`: the test without the sum that would wrap.
use Rattle.std.proofs.Common.{◌+◌, ◌-◌, ◌^◌, sym, arith, le-ltb}
use Rattle.state.proofs.TestLaws.{ltb-same}
use Rattle.state.proofs.setup.passes.Goals as goal

pub returns-then-base-eq0 : goal.returns-then-base-eq0
returns-then-base-eq0 c =
    let a = c.args in
    sym (le-ltb (2 ^ 64) (a.base + a.n) (omega arith))

pub returns : goal.returns
returns c =
    let a = c.args in
    ltb-same (18446744073709551615 - a.base + 1) a.n (2 ^ 64) (a.base + a.n) (omega arith) (omega arith)
