-- `parallel::clipped::limit` meets its contract. A bit over the largest signed number.
use Prim.Native.Nat.{ℕ, ◌+◌, ◌-◌, ◌/◌}
use native.Mathlib.Omega.{arith}
use Rattle.isa.specs.declared.Width.{Width}
use Rattle.isa.specs.Widths.{bits}
use Rattle.element.specs.Value.{top}
use Rattle.element.proofs.Widths.{size}
use Rattle.vectors.proofs.ElementLaws.{element-below}
use Rattle.vectors.proofs.Sizes.{shares}
use Rattle.parallel.specs.Lanes.{Lanes, Each1}
use Rattle.parallel.proofs.Words.{sum-lanes}
use Rattle.parallel.proofs.Tested.{bit-small}
use Rattle.parallel.proofs.clipped.limit.Goals as goal

limits : (w : Width) (s : ℕ) {x y : ℕ} → Each1 (bits w) x (λ e. e / top (bits w)) s
    → Lanes (bits w) y (λ _. top (bits w) - 1) → Each1 (bits w) (x + y) (λ e. e / top (bits w) + (top (bits w) - 1)) s
limits w s a b = sum-lanes (shares w) a b
    (λ i l. omega (arith, size w, bit-small (bits w) (size w) (element-below (bits w) s i)))

pub overflow_add-result : goal.overflow_add-result
overflow_add-result c =
    let a = c.args in
    omega (arith, (limits a.w a.s c.signs.ensures c.lows.ensures).below)

pub returns : goal.returns
returns c =
    let a = c.args in
    limits a.w a.s c.signs.ensures c.lows.ensures
