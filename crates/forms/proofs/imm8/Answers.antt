-- `forms::imm8` meets its contract. The immediate is in every byte.
use mathlib.Core.Path.{◌≡◌}
use Rattle.isa.specs.declared.Width.TheVariants.{B}
use Rattle.memory.specs.Value.{register}
use Rattle.vectors.specs.Register.{filled}
use Rattle.vectors.proofs.Sizes.{shares}
use Rattle.vectors.proofs.Wholes.{value-filled}
use Rattle.forms.proofs.imm8.Goals as goal

pub returns : goal.returns
returns c =
    let imm = c.args.imm in
    let bytes : c.spread.result ≡ register (filled 8 imm) = c.spread.ensures in
    rw (← value-filled (shares B) imm, ← bytes) c.logic.ensures
