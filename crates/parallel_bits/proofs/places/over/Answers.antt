-- `parallel_bits::places::over` meets its contract. The bits under the mask are taken off, and others put there.
use Rattle.std.proofs.Common.{◌+◌, ◌-◌, ◌^◌, ◌<◌, ℕ, bit_and, rules, arith}
use lib.Bits.{and_le_l}
use Rattle.isa.specs.declared.Width.{Width}
use Rattle.isa.specs.Widths.{bits}
use Rattle.vectors.specs.Register.{element}
use Rattle.vectors.proofs.Sizes.{shares}
use Rattle.parallel.specs.Lanes.{Each3}
use Rattle.parallel.proofs.Words.{own, fits, and-lanes, minus-lanes, sum-lanes}
use Rattle.parallel_bits.proofs.Amounts.{over-room}
use Rattle.parallel_bits.proofs.places.over.Goals as goal

put-over : (w : Width) (d s m : ℕ) → d < 2 ^ 64 → s < 2 ^ 64 → m < 2 ^ 64
    → Each3 (bits w) (s - bit_and s m + bit_and d m) (λ a b c. b - bit_and b c + bit_and a c) d s m
put-over w d s m hd hs hm =
    let n = bits w in
    let share = shares w in
    let first = own share s hs in
    let mask = own share m hm in
    let rest = minus-lanes share first (and-lanes share first mask) (λ i l. and_le_l (element n s i) (element n m i)) in
    sum-lanes share rest (and-lanes share (own share d hd) mask)
    (λ i l. over-room n (element n d i) (element n s i) (element n m i) (fits share first i l) (fits share mask i l))

pub overflow_add-result : goal.overflow_add-result
overflow_add-result c =
    let a = c.args in
    omega (arith, (put-over a.w a.d a.s a.m (search rules) (search rules) (search rules)).below)

pub returns : goal.returns
returns c = let a = c.args in put-over a.w a.d a.s a.m (search rules) (search rules) (search rules)
