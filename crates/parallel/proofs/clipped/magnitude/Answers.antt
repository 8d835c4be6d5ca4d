-- `parallel::clipped::magnitude` meets its contract. The other bits, and one more, where the sign is set.
use borrow.Author.Rules.{rules}
use mathlib.Core.Bool.{cond}
use Prim.Native.Nat.{ℕ, ◌+◌, ◌-◌, ◌/◌, ◌^◌, ◌<◌}
use native.Mathlib.Omega.{arith}
use lib.Bits.{bit_xor}
use lib.Dec.{ltb}
use Rattle.isa.specs.declared.Width.{Width}
use Rattle.isa.specs.Widths.{bits}
use Rattle.element.specs.Value.{top, magnitude}
use Rattle.element.proofs.Widths.{size}
use Rattle.vectors.proofs.Sizes.{shares}
use Rattle.parallel.specs.Lanes.{Each1}
use Rattle.parallel.proofs.Words.{own, fits, same-lanes, sum-lanes, xor-lanes}
use Rattle.parallel.proofs.Held.{magnitude-lane, magnitude-below}
use Rattle.parallel.proofs.clipped.magnitude.Goals as goal

magnitudes : (w : Width) (x : ℕ) {y z : ℕ} → x < 2 ^ 64
    → Each1 (bits w) y (λ e. cond (ltb e (top (bits w))) 0 (2 ^ bits w - 1)) x
    → Each1 (bits w) z (λ e. e / top (bits w)) x → Each1 (bits w) (bit_xor x y + z) (magnitude (bits w)) x
magnitudes w x h filled signs =
    let share = shares w in
    let a = own share x h in
    same-lanes share
    (sum-lanes share (xor-lanes share a filled) signs
    (λ i l. let f = fits share a i l in
    omega (arith, magnitude-lane (bits w) (size w) f f, magnitude-below (bits w) (size w) f f)))
    (λ i l. let f = fits share a i l in magnitude-lane (bits w) (size w) f f)

pub overflow_add-result : goal.overflow_add-result
overflow_add-result c =
    let a = c.args in
    omega (arith, (magnitudes a.w a.x (search rules) c.filled.ensures c.signs.ensures).below)

pub returns : goal.returns
returns c =
    let a = c.args in
    magnitudes a.w a.x (search rules) c.filled.ensures c.signs.ensures
