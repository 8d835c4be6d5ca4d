-- `listed::place::place` meets its contract.
use Rattle.listed.proofs.PlaceLaws.{placed, room}
use Rattle.std.proofs.Common.{ℕ, ◌+◌, ◌-◌, ◌%◌, ◌^◌, refl, arith}
use Rattle.listed.proofs.place.place.Goals as goal

pub overflow_add-result : goal.overflow_add-result
overflow_add-result c =
    let d : ℕ = (c.args.pc + (2 ^ 64 - c.args.base)) % 2 ^ 64 in
    omega (arith, room d (omega arith))

pub returns : goal.returns
returns c = placed c.args.base c.args.pc _ _ (omega arith) (omega arith) refl
