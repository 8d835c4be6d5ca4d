-- `machine::turns::turns`. The invariant: the run so far and the run that is left are the whole run.
use Rattle.machine.proofs.RunLaws.{sofar-none, sofar-more, sofar-stopped, sofar-spent}
use Rattle.machine.specs.Run.{runs}
use Rattle.state.specs.Machine.{env, machine}
use Rattle.std.proofs.Common.{◌≡◌, arith}
use Rattle.machine.proofs.turns.turns.Goals as goal

pub loop-count-init : goal.loop-count-init
loop-count-init c =
    let a = c.args in
    sofar-none a.program.now (env a.board a.table.now) a.budget (machine a.vectors.now a.generals.now a.work.now a.c)

pub loop-count-preserved : goal.loop-count-preserved
loop-count-preserved c =
    let a = c.args in
    let l = c.loop-count in
    let e = env a.board a.table.now in
    let m = machine l.vectors l.generals l.work l.control in
    let whole = runs a.program.now e a.budget (machine a.vectors.now a.generals.now a.work.now a.c) in
    sofar-more a.program.now e a.budget l.count m whole l.invariant c.loop-count-test.true _ _ _ _ c.advance-s.ensures
    c.in_default.is

pub returns-in-Err : goal.returns-in-Err
returns-in-Err c =
    let a = c.args in
    let l = c.loop-count in
    let e = env a.board a.table.now in
    let m = machine l.vectors l.generals l.work l.control in
    let whole = runs a.program.now e a.budget (machine a.vectors.now a.generals.now a.work.now a.c) in
    sofar-stopped a.program.now e a.budget l.count m whole l.invariant c.loop-count-test.true _ _ _ _ _
    c.advance-s.ensures c.in-Err.is

pub returns : goal.returns
returns c =
    let a = c.args in
    let l = c.loop-count in
    let e = env a.board a.table.now in
    let m = machine l.vectors l.generals l.work l.control in
    let whole = runs a.program.now e a.budget (machine a.vectors.now a.generals.now a.work.now a.c) in
    let all : l.count ≡ a.budget = omega (arith, l.auto.count-end, c.loop-count-test.false) in
    let spent = sofar-spent a.program.now e a.budget l.count m whole l.invariant c.loop-count-test.false in
    rw all at spent
