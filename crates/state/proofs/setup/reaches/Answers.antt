-- `state::setup::reaches`: the test without the sum that would wrap.
use Rattle.std.proofs.Common.{◌+◌, ◌-◌, sym, arith, lt-ltb}
use Rattle.state.proofs.TestLaws.{ltb-same}
use Rattle.state.proofs.setup.reaches.Goals as goal

pub returns-then-b-a : goal.returns-then-b-a
returns-then-b-a c =
    let a = c.args in
    sym (lt-ltb a.b (a.a + a.n) (omega arith))

pub returns : goal.returns
returns c =
    let a = c.args in
    ltb-same (a.b - a.a) a.n a.b (a.a + a.n) (omega arith) (omega arith)
