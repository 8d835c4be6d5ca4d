-- What reading a word promises makes its answer the definition's. Assumes nothing.
use mathlib.Core.Path.{◌≡◌}
use Prim.Native.Nat.{ℕ}
use Rattle.std.specs.Prelude.{Result}
use Rattle.isa.specs.declared.Unread.{Unread}
use Rattle.isa.specs.declared.Instr.{Instr}
use Rattle.isa.proofs.Apart.{read-apart}
use Rattle.reading.specs.Reading.{read_of, Reads}

pub read_is : {w : ℕ} {r : Result Instr Unread} → Reads w r → r ≡ read_of w
read_is {w} {r} h = read-apart r (read_of w) h.said
