-- `parallel_bits::shifting::rounded_by` meets its contract. The floor and the last bit out, in views (Floors).
use native.Mathlib.Omega.{arith}
use Rattle.parallel_bits.proofs.Floors.{rounded-lanes, rounded-all}
use Rattle.parallel_bits.proofs.shifting.rounded_by.Goals as goal

pub overflow_add-viewed : goal.overflow_add-viewed
overflow_add-viewed c =
    let moved = c in
    let start = moved in
    let a = start.args in
    let sum = rounded-lanes a.w a.g a.s (λ _. a.k) (λ _. start.requires) moved.floor.ensures
    c.viewed.ensures c.last_of.ensures in
    omega (arith, sum.below)

pub returns : goal.returns
returns c =
    let out = c in
    let moved = out in
    let start = moved in
    let a = start.args in
    rounded-all a.w a.g a.s (λ _. a.k) (λ _. start.requires) moved.floor.ensures
    out.viewed.ensures out.last_of.ensures c.viewed-2.ensures
