-- `text::put_text` meets its contract: a copy into the part of the line that the text takes.
use native.Mathlib.Omega.{arith}
use Rattle.text.proofs.Puts.{puts_part}
use Rattle.text.proofs.put_text.Goals as goal

pub returns : goal.returns
returns c = puts_part _ _ c.copy_from_slice.ensures.after (omega arith) c.requires
