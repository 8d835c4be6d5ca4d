-- `state::setup::unless`: by the test.
use Rattle.state.proofs.setup.unless.Goals as goal

pub returns-then-broken : goal.returns-then-broken
returns-then-broken c = rw c.if-broken.true
