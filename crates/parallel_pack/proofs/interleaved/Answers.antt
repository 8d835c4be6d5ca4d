-- `parallel_pack::interleaved` meets its contract. The second list goes up by one element.
use Rattle.std.proofs.Common.{rules, arith}
use Rattle.parallel_pack.proofs.Places.{doubles, interleaved-lanes}
use Rattle.parallel_pack.proofs.interleaved.Goals as goal

pub overflow_add-result : goal.overflow_add-result
overflow_add-result c =
    let p = c.requires in
    let a = c.args in
    omega (
      arith,
      (interleaved-lanes (doubles a.w p.0) a.a a.b (search rules) (search rules) c.count.ensures p.1 p.2).below,
    )

pub returns : goal.returns
returns c =
    let p = c.requires in
    let a = c.args in
    interleaved-lanes (doubles a.w p.0) a.a a.b (search rules) (search rules) c.count.ensures p.1 p.2
