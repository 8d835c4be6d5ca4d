-- `machine::effect::apply`: in each arm the plan is known, and what it names is there.
use Rattle.std.proofs.Common.{refl, arith, rules}
use Rattle.machine.proofs.effect.apply.Goals as goal

pub write_register-requires : goal.write_register-requires
write_register-requires c =
    let f = rw c.in-Vector.is at c.requires in
    search rules

pub write_general-requires : goal.write_general-requires
write_general-requires c =
    let f = rw c.in-General.is at c.requires in
    search rules

pub overflow_sub-a : goal.overflow_sub-a
overflow_sub-a c =
    let f = rw c.in-Store.is at c.requires in
    omega arith

pub put_sixteen-requires : goal.put_sixteen-requires
put_sixteen-requires c =
    let f = rw c.in-Store.is at c.requires in
    omega arith

pub returns-in-Vector : goal.returns-in-Vector
returns-in-Vector c = rw c.in-Vector.is (record { vectors_after = c.write_register.ensures; generals_after = refl; work_after = refl })

pub returns-in-General : goal.returns-in-General
returns-in-General c = rw c.in-General.is (record { vectors_after = refl; generals_after = c.write_general.ensures; work_after = refl })

pub returns-in-Store : goal.returns-in-Store
returns-in-Store c = rw c.in-Store.is (record { vectors_after = refl; generals_after = refl; work_after = c.put_sixteen.ensures })
