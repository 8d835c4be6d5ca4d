-- `ops::stands` meets its contract: the class is the byte's part below 32.
use mathlib.Core.Path.{ap, ◌∙◌}
use Prim.Native.Nat.{ℕ, ◌%◌}
use lib.Dec.{eqb}
use Rattle.ops.proofs.Packed.{class-part}
use Rattle.ops.proofs.stands.Goals as goal

pub returns : goal.returns
returns c =
    let a = c.args in
    ap (λ (n : ℕ). eqb n a.class) (ap (λ (b : ℕ). b % 32) c.byte_at.ensures ∙ class-part a.k)
