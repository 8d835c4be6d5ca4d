-- `parallel_bits::steps::mod_8` meets its contract. Three steps are the amounts modulo 8 (Barrel).
use Rattle.std.proofs.Common.{refl, arith, rules}
use Rattle.parallel_bits.proofs.Amounts.{wide}
use Rattle.parallel_bits.proofs.Barrel.{stepped, three}
use Rattle.parallel_bits.proofs.steps.mod_8.Goals as goal

pub returns : goal.returns
returns g c = λ act law each.
    let a = c.args in
    three law a.s a.t (search rules)
    (stepped law a.s a.t 0 refl (each a.s 1 _ (omega (arith, wide a.w)) c.shift.ensures) c.by_bit-one.ensures)
    (stepped law _ a.t 1 refl (each _ 2 _ (omega (arith, wide a.w)) c.shift-2.ensures) c.by_bit-two.ensures)
    (stepped law _ a.t 2 refl (each _ 4 _ (omega (arith, wide a.w)) c.shift-3.ensures) c.by_bit.ensures)
