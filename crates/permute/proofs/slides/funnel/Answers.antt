-- `permute::slides::funnel` meets its contract. The bytes of both in every element, one above the other.
use borrow.Author.Rules.{rules}
use mathlib.Core.Path.{◌≡◌}
use native.Mathlib.Omega.{arith}
use Rattle.isa.specs.declared.Width.TheVariants.{B}
use Rattle.vectors.proofs.Sizes.{shares}
use Rattle.parallel.proofs.Words.{own, same-lanes}
use Rattle.permute.proofs.SlideLaws.{bytes_of, slid-lanes, slid-bytes, slid-none}
use Rattle.permute.proofs.slides.funnel.Goals as goal

pub overflow_add-result : goal.overflow_add-result
overflow_add-result c =
    let first = c in
    let top = first in
    let a = top.args in
    let all = slid-lanes (bytes_of a.v) a.d a.s a.k top.requires (shares a.v)
    c.count.ensures (omega arith) first.shr.ensures c.sll.ensures in
    omega (arith, all.below)

pub returns-then-k-eq0 : goal.returns-then-k-eq0
returns-then-k-eq0 c =
    let a = c.args in
    let none : 0 ≡ a.k = omega arith in
    same-lanes (shares B) (own (shares B) a.s (search rules))
    (λ i l. rw (← none) (slid-none (bytes_of a.v).some a.d a.s i))

pub returns : goal.returns
returns c =
    let first = c in
    let top = first in
    let a = top.args in
    let b = bytes_of a.v in
    slid-bytes b a.d a.s a.k top.requires
    (slid-lanes b a.d a.s a.k top.requires (shares a.v)
    c.count.ensures (omega arith) first.shr.ensures c.sll.ensures)
