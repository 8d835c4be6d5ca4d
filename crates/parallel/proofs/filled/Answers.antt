-- `parallel::filled` meets its contract. A bit times all ones.
use mathlib.Core.Bool.{cond}
use Prim.Native.Nat.{ℕ, ◌-◌, ◌*◌, ◌/◌, ◌^◌}
use native.Mathlib.Omega.{arith}
use lib.Dec.{ltb}
use Rattle.isa.specs.declared.Width.{Width}
use Rattle.isa.specs.Widths.{bits}
use Rattle.element.specs.Value.{top}
use Rattle.element.proofs.Widths.{size}
use Rattle.vectors.proofs.ElementLaws.{element-below}
use Rattle.vectors.proofs.Sizes.{shares}
use Rattle.parallel.specs.Lanes.{Each1}
use Rattle.parallel.proofs.Words.{same-lanes}
use Rattle.parallel.proofs.Tested.{filled-lane, bit-small}
use Rattle.parallel.proofs.Masked.{bit-times}
use Rattle.parallel.proofs.filled.Goals as goal

fills : (w : Width) (z : ℕ) {x : ℕ} → Each1 (bits w) x (λ e. e / top (bits w)) z
    → Each1 (bits w) (x * (2 ^ bits w - 1)) (λ e. cond (ltb e (top (bits w))) 0 (2 ^ bits w - 1)) z
fills w z a = same-lanes (shares w)
    (bit-times w a (λ i l. bit-small (bits w) (size w) (element-below (bits w) z i)))
    (λ i l. filled-lane (bits w) (size w) (element-below (bits w) z i))

pub overflow_mul-result : goal.overflow_mul-result
overflow_mul-result c =
    let a = c.args in
    rw c.ones.ensures (omega (arith, (fills a.w a.z c.signs.ensures).below))

pub returns : goal.returns
returns c =
    let a = c.args in
    rw c.ones.ensures (fills a.w a.z c.signs.ensures)
