-- `parallel::clipped::asub` meets its contract. What each is above the smaller.
use borrow.Author.Rules.{rules}
use native.Mathlib.Omega.{arith}
use Rattle.element.proofs.Widths.{size}
use Rattle.isa.specs.Widths.{bits}
use Rattle.vectors.proofs.Sizes.{shares}
use Rattle.parallel.proofs.Words.{own, fits, same-lanes, sum-lanes, minus-lanes, minus-fits}
use mathlib.Core.Path.{sym, ◌∙◌}
use Rattle.linear.proofs.Forms.{asub-form}
use Rattle.parallel.proofs.Halves.{distance}
use Rattle.parallel.proofs.clipped.asub.Goals as goal

pub overflow_sub-result : goal.overflow_sub-result
overflow_sub-result c =
    let a = c.args in
    let share = shares a.w in
    let u = own share c.viewed-u.result (search rules) in
    omega (arith, minus-fits share u c.least-m.ensures (λ i l. omega arith))

pub overflow_sub-result-2 : goal.overflow_sub-result-2
overflow_sub-result-2 c =
    let a = c.args in
    let share = shares a.w in
    let v = own share c.viewed-v.result (search rules) in
    omega (arith, minus-fits share v c.least-m.ensures (λ i l. omega arith))

pub overflow_add-result : goal.overflow_add-result
overflow_add-result c =
    let a = c.args in
    let share = shares a.w in
    let u = own share c.viewed-u.result (search rules) in
    let v = own share c.viewed-v.result (search rules) in
    let first = minus-lanes share u c.least-m.ensures (λ i l. omega arith) in
    let second = minus-lanes share v c.least-m.ensures (λ i l. omega arith) in
    omega (arith, (sum-lanes share first second (λ i l. omega (arith, fits share u i l, fits share v i l))).below)

pub returns : goal.returns
returns c =
    let a = c.args in
    let share = shares a.w in
    let n = bits a.w in
    let u = own share c.viewed-u.result (search rules) in
    let v = own share c.viewed-v.result (search rules) in
    let first = minus-lanes share u c.least-m.ensures (λ i l. omega arith) in
    let second = minus-lanes share v c.least-m.ensures (λ i l. omega arith) in
    let s = own share a.s (search rules) in
    let t = own share a.t (search rules) in
    same-lanes share (sum-lanes share first second (λ i l. omega (arith, fits share u i l, fits share v i l)))
    (λ i l. distance (c.viewed-u.ensures.at i l) (c.viewed-v.ensures.at i l)
    ∙ sym (asub-form n (size a.w) a.g (record { first = fits share s i l; second = fits share t i l })))
