-- `listed::common::address_of` meets its contract.
use Rattle.std.proofs.Common.{refl}
use Rattle.listed.proofs.common.address_of.Goals as goal

pub returns : goal.returns
returns c = rw (c.general.ensures, c.source_of.ensures.0, c.extended.ensures) refl
