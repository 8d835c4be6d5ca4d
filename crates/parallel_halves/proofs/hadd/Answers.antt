-- `parallel_halves::hadd` meets its contract. The sums of the halves, or of their views, have room (Sides).
use native.Mathlib.Omega.{arith}
use Rattle.parallel_halves.proofs.Sides.{high_small, sum-unsigned, sum-turned, sum-full, sum-signed}
use Rattle.parallel_halves.proofs.hadd.Goals as goal

pub overflow_add-result : goal.overflow_add-result
overflow_add-result c =
    let high = c in
    let a = high.args in
    omega (arith, (sum-unsigned a.w a.s a.t high.high_half.ensures c.low_half.ensures).below)

pub turned-requires : goal.turned-requires
turned-requires c = let a = c.args in high_small a.w a.s c.high_half-in-Signed.ensures

pub overflow_add-turned : goal.overflow_add-turned
overflow_add-turned c =
    let low = c in
    let first = low in
    let high = first in
    let a = high.args in
    omega (
      arith,
      (sum-turned a.w a.s a.t high.high_half-in-Signed.ensures low.low_half-in-Signed.ensures
          first.turned.ensures c.turned-in-Signed.ensures).below,
    )

pub overflow_add-turned-in-Signed : goal.overflow_add-turned-in-Signed
overflow_add-turned-in-Signed c =
    let second = c in
    let low = second in
    let first = low in
    let high = first in
    let a = high.args in
    omega (
      arith,
      (sum-full a.w a.s a.t high.high_half-in-Signed.ensures low.low_half-in-Signed.ensures
          first.turned.ensures second.turned-in-Signed.ensures c.short.ensures).below,
    )

pub returns-in-Unsigned : goal.returns-in-Unsigned
returns-in-Unsigned c =
    let high = c in
    let told = high in
    let a = told.args in
    rw told.in-Unsigned.is
    (sum-unsigned a.w a.s a.t high.high_half.ensures c.low_half.ensures)

pub returns-in-Signed : goal.returns-in-Signed
returns-in-Signed c =
    let rest = c in
    let second = rest in
    let low = second in
    let first = low in
    let high = first in
    let told = high in
    let a = told.args in
    rw told.in-Signed.is
    (sum-signed a.w a.s a.t high.high_half-in-Signed.ensures low.low_half-in-Signed.ensures first.turned.ensures
    second.turned-in-Signed.ensures rest.short.ensures c.flipped.ensures)
