-- `listed::common::finished` meets its contract.
use Rattle.listed.proofs.common.finished.Goals as goal

pub returns : goal.returns
returns c = rw c.forward.ensures
