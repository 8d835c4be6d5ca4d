-- `parallel_pack::shuffled` meets its contract. The sum of four quarters of every element.
use native.Mathlib.Omega.{arith}
use Rattle.parallel_pack.proofs.Quarters.{two_lanes, three-lanes, shuffled-lanes}
use Rattle.parallel_pack.proofs.shuffled.Goals as goal

pub overflow_add-result : goal.overflow_add-result
overflow_add-result c = let a = c.args in let h = (two_lanes a.v a.x a.imm
    c.quarter_at-a.ensures c.quarter_at-b.ensures
    c.quarter_at-c.ensures c.quarter_at-d.ensures).below in omega arith

pub overflow_add-result-2 : goal.overflow_add-result-2
overflow_add-result-2 c = let a = c.args in let h = (three-lanes a.v a.x a.imm
    c.quarter_at-a.ensures c.quarter_at-b.ensures
    c.quarter_at-c.ensures c.quarter_at-d.ensures).below in omega arith

pub overflow_add-result-3 : goal.overflow_add-result-3
overflow_add-result-3 c = let a = c.args in let h = (shuffled-lanes a.v a.x a.imm
    c.quarter_at-a.ensures c.quarter_at-b.ensures
    c.quarter_at-c.ensures c.quarter_at-d.ensures).below in omega arith

pub returns : goal.returns
returns c = let a = c.args in shuffled-lanes a.v a.x a.imm
    c.quarter_at-a.ensures c.quarter_at-b.ensures
    c.quarter_at-c.ensures c.quarter_at-d.ensures
