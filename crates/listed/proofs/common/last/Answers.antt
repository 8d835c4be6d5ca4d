-- `listed::common::last` meets its contract.
use Rattle.listed.proofs.common.last.Goals as goal

pub returns : goal.returns
returns c = rw (← c.third_of.ensures.0) c.read_register.ensures
