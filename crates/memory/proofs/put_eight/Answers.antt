-- `memory::put_eight` meets its contract: std writes the bytes of the number.
use mathlib.Core.Path.{◌∙◌}
use native.Mathlib.Omega.{arith}
use Rattle.std.specs.Int.{w64}
use Rattle.memory.proofs.Numbers.{length-bytes_of, to_le}
use Rattle.memory.proofs.Parts.{replaced-mid}
use Rattle.memory.proofs.put_eight.Goals as goal

pub returns : goal.returns
returns c =
    replaced-mid c.args.d.now c.args.at (c.copy_from_slice.ensures.after ∙ c.to_le_bytes.ensures ∙ to_le w64 c.args.x)
    (omega (arith, length-bytes_of 8 c.args.x))
