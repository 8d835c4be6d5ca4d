-- `parallel_bits::spread_word` meets its contract. Each element is 1 times e.
use native.Mathlib.Omega.{arith}
use Rattle.vectors.proofs.Sizes.{shares}
use Rattle.parallel.proofs.Words.{same-lanes, times-lanes}
use Rattle.parallel_bits.proofs.spread_word.Goals as goal

pub overflow_mul-result : goal.overflow_mul-result
overflow_mul-result c =
    let a = c.args in
    let share = shares a.w in
    let all = times-lanes share c.units.ensures a.e (λ i l. omega (arith, c.requires)) in
    omega (arith, all.below)

pub returns : goal.returns
returns c =
    let a = c.args in
    let share = shares a.w in
    let all = times-lanes share c.units.ensures a.e (λ i l. omega (arith, c.requires)) in
    same-lanes share all (λ i l. omega arith)
