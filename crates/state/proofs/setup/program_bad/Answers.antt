-- `state::setup::program_bad` puts the calls' answers together.
use Rattle.std.proofs.Common.{refl}
use Rattle.state.proofs.setup.program_bad.Goals as goal

pub returns : goal.returns
returns c = rw c.passes.ensures refl
