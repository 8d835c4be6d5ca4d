-- `entries::parts::width_of` meets its contract.
use Rattle.std.proofs.Common.{rules}
use Rattle.entries.specs.Cut.{width_of}
use Rattle.entries.proofs.parts.width_of.Goals as goal

pub overflow_cast-e : goal.overflow_cast-e
unfolding width_of
overflow_cast-e c = search rules

pub width_at-requires : goal.width_at-requires
unfolding width_of
width_at-requires c = search rules

pub returns : goal.returns
unfolding width_of
returns c = c.width_at.ensures
