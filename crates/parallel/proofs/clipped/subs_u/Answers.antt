-- `parallel::clipped::subs_u` meets its contract. Nothing is taken off that is not there.
use borrow.Author.Rules.{rules}
use native.Mathlib.Omega.{arith}
use Rattle.element.proofs.Widths.{size}
use Rattle.isa.specs.Widths.{bits}
use Rattle.vectors.proofs.Sizes.{shares}
use Rattle.parallel.proofs.Words.{own, fits, same-lanes, minus-lanes, minus-fits}
use Rattle.element.specs.declared.Reading.TheVariants.{Unsigned}
use Rattle.linear.proofs.Forms.{subs-form}
use Rattle.parallel.proofs.clipped.subs_u.Goals as goal

pub overflow_sub-result : goal.overflow_sub-result
overflow_sub-result c =
    let a = c.args in
    let share = shares a.w in
    let s = own share a.s (search rules) in
    omega (arith, minus-fits share s c.least.ensures (λ i l. omega arith))

pub returns : goal.returns
returns c =
    let a = c.args in
    let share = shares a.w in
    let n = bits a.w in
    let s = own share a.s (search rules) in
    let t = own share a.t (search rules) in
    same-lanes share (minus-lanes share s c.least.ensures (λ i l. omega arith))
    (λ i l. omega (
      arith,
      size a.w,
      subs-form n (size a.w) Unsigned (record { first = fits share s i l; second = fits share t i l }),
      fits share s i l,
    ))
