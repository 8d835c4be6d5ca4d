-- `values::seldom::pack_at` meets its contract: an arm a line, and of the six codes one is left.
use mathlib.Core.Path.{◌≡◌}
use native.Mathlib.Omega.{arith}
use Rattle.ops.specs.Meaning.{three_at}
use Rattle.values.proofs.seldom.pack_at.Goals as goal

pub returns-in-74 : goal.returns-in-74
unfolding three_at
returns-in-74 c = rw c.in-74.is

pub returns-in-75 : goal.returns-in-75
unfolding three_at
returns-in-75 c = rw c.in-75.is

pub returns-in-76 : goal.returns-in-76
unfolding three_at
returns-in-76 c = rw c.in-76.is

pub returns-in-77 : goal.returns-in-77
unfolding three_at
returns-in-77 c = rw c.in-77.is

pub returns-in-78 : goal.returns-in-78
unfolding three_at
returns-in-78 c = rw c.in-78.is

pub returns-in_default : goal.returns-in_default
unfolding three_at
returns-in_default c = let last : c.args.c ≡ 79 = omega arith in rw last
