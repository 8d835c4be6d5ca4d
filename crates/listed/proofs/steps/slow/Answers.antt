-- `listed::steps::slow` meets its contract.
use Rattle.std.proofs.Common.{arith}
use Rattle.state.specs.Machine.{env}
use Rattle.listed.proofs.steps.slow.Goals as goal

pub vector-requires : goal.vector-requires
vector-requires c = (c.requires.0, omega (arith, c.code_of.ensures.0, c.if-code_of-lt105.true), c.requires.1)

pub returns-then-code_of-lt105 : goal.returns-then-code_of-lt105
returns-then-code_of-lt105 c t = c.vector.ensures (env c.args.board t) c.args.work.now

pub rest-requires : goal.rest-requires
rest-requires c = (omega (arith, c.code_of.ensures.0, c.if-code_of-lt105.false), c.requires.1)

pub returns : goal.returns
returns c t = c.rest.ensures t
