-- `meaning::three_at` meets its contract: at a place of no line, what is said first.
use Rattle.isa.specs.declared.Three.TheVariants as three
use Rattle.ops.specs.Table.{threes}
use Rattle.ops.specs.Meaning.{three_at}
use Rattle.ops.proofs.Find.{unmeant}
use Rattle.meaning.proofs.three_at.Goals as goal

pub returns-in_default : goal.returns-in_default
unfolding three_at
returns-in_default c = unmeant three.Vshf c.args.op.0 threes c.in_default.in_default-own.rest
