-- `writing::write_word` meets its contract.
use mathlib.Core.Path.{ap}
use Rattle.isa.specs.Numbers.{written_said}
use Rattle.writing.specs.Writing.{write_of}
use Rattle.writing.proofs.Shapes.{shaped}
use Rattle.writing.proofs.write_word.Goals as goal

pub returns : goal.returns
unfolding write_of
returns c = record { said = ap written_said (rw c.layout_of.ensures at c.seal.ensures) }

pub seal-requires : goal.seal-requires
seal-requires c = rw c.layout_of.ensures (shaped c.args.i)
