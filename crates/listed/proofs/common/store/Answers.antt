-- `listed::common::store` meets its contract.
use Rattle.std.proofs.Common.{length, sym, refl, ap, ◌∙◌, arith}
use Rattle.isa.specs.Widths.{bytes}
use Rattle.machine.proofs.StepLaws.{stopped-is}
use Rattle.order.proofs.TurnLaws.{turned-held}
use Rattle.state.proofs.WindowLaws.{spot-work}
use Rattle.state.specs.Machine.{machine}
use Rattle.listed.proofs.common.store.Goals as goal

pub put_sixteen-requires : goal.put_sixteen-requires
put_sixteen-requires c =
    let a = c.args in
    let held = spot-work a.board a.table (length a.work.now) a.a _
    (sym c.locate.ensures ∙
    c.in-Work.is) in
    omega (arith, held.0, held.1, held.2)

pub returns-in-Table : goal.returns-in-Table
returns-in-Table c t g is =
    let a = c.args in
    rw (← is, ← c.locate.ensures, c.in-Table.is)
    (stopped-is _ (machine a.vectors.now g a.work.now a.c) _ c.stopped.ensures)

pub returns-in-Work : goal.returns-in-Work
returns-in-Work c t g is =
    let a = c.args in
    let at = c.locate.ensures in
    let held = spot-work a.board a.table (length a.work.now) a.a _
    (sym at ∙ c.in-Work.is) in
    let from = held.2 in
    let d = c.dest_of.ensures.0 in
    let w = c.width_of.ensures in
    let v = c.turn.ensures ∙ turned-held a.board.order
    (bytes c.width_of.result)
    c.read_register-v.ensures in
    rw (← is, ← at, c.in-Work.is)
    (record {
      outcome = ap (λ x. x.outcome) c.finished.ensures;
      control = ap (λ x. x.control)
          c.finished.ensures;
      vec = refl;
      gen = refl;
      work = cc;
    })

pub returns-in-Outside : goal.returns-in-Outside
returns-in-Outside c t g is =
    let a = c.args in
    rw (← is, ← c.locate.ensures, c.in-Outside.is)
    (stopped-is _ (machine a.vectors.now g a.work.now a.c) _ c.stopped-in-Outside.ensures)
