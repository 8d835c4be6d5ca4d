-- `ops::class_of` meets its contract: a number that no arm names is that of no class.
use mathlib.Core.Path.{sym}
use Rattle.ops.proofs.Packed.{no-class}
use Rattle.ops.proofs.class_of.Goals as goal

pub returns-in_default : goal.returns-in_default
returns-in_default c = sym (no-class c.args.n c.in_default.in_default-own.rest)
