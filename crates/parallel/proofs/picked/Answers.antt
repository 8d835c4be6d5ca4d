-- `parallel::picked` meets its contract. By the mask and its inverse.
use borrow.Author.Rules.{rules}
use Rattle.element.proofs.Widths.{size}
use Rattle.isa.specs.Widths.{bits}
use Rattle.vectors.proofs.Sizes.{shares}
use Rattle.parallel.proofs.Words.{own, fits, same-lanes, and-lanes, or-lanes}
use mathlib.Core.Path.{ap}
use Prim.Native.Nat.{◌-◌, ◌^◌}
use lib.Dec.{ltb}
use Rattle.element.specs.Value.{top}
use Rattle.vectors.specs.Register.{element}
use Rattle.parallel.proofs.Tested.{picked-lane}
use Rattle.parallel.proofs.picked.Goals as goal

pub returns : goal.returns
returns c =
    let a = c.args in
    let share = shares a.w in
    let n = bits a.w in
    let yes = own share a.yes (search rules) in
    let no = own share a.no (search rules) in
    let mask = c.filled-m.ensures in
    let other = same-lanes share c.inverse.ensures (λ i l. ap (λ x. 2 ^ n - 1 - x) (mask.at i l)) in
    same-lanes share (or-lanes share (and-lanes share no mask) (and-lanes share yes other))
    (λ i l. picked-lane n (size a.w) (ltb (element n a.z i) (top n)) (fits share no i l) (fits share yes i l))
