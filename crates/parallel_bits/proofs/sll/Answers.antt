-- `parallel_bits::sll` meets its contract. What would leave the element is taken off first.
use borrow.Author.Rules.{rules}
use Rattle.isa.specs.Widths.{bits}
use Rattle.vectors.proofs.Sizes.{shares}
use Rattle.parallel.proofs.Words.{own, same-lanes, and-lanes, times-lanes}
use Prim.Native.Nat.{◌-◌, ◌^◌}
use native.Mathlib.Nat.{mod-eq_of_lt}
use lib.Bits.{and_mask}
use Rattle.vectors.specs.Register.{element}
use Rattle.parallel_bits.proofs.Amounts.{moved-below, sll-lane}
use Rattle.parallel_bits.proofs.sll.Goals as goal

pub returns : goal.returns
returns c =
    let a = c.args in
    let share = shares a.w in
    let n = bits a.w in
    let low = same-lanes share (and-lanes share (own share a.s (search rules)) c.kept.ensures)
    (λ i l. and_mask (element n a.s i) (n - a.k)) in
    let all = times-lanes share low (2 ^ a.k) (λ i l. moved-below n (element n a.s i) a.k c.requires) in
    let whole = same-lanes share all (λ i l. sll-lane n (element n a.s i) a.k c.requires) in
    rw (mod-eq_of_lt all.below) whole
