-- `listed::common::load` meets its contract.
use Rattle.std.proofs.Common.{sym, refl, ap, ◌∙◌, rules}
use Rattle.isa.specs.Widths.{bytes}
use Rattle.machine.proofs.StepLaws.{stopped-is}
use Rattle.order.proofs.TurnLaws.{turned-held}
use Rattle.state.proofs.WindowLaws.{spot-table, spot-work}
use Rattle.state.specs.Machine.{machine}
use Rattle.listed.proofs.common.load.Goals as goal

pub sixteen-requires : goal.sixteen-requires
sixteen-requires c =
    let held = spot-table
    c.args.board _ _ _ _
    (sym c.locate.ensures ∙ c.in-Table.is) in
    search rules

pub sixteen-requires-in-Work : goal.sixteen-requires-in-Work
sixteen-requires-in-Work c =
    let held = spot-work
    c.args.board _ _ _ _
    (sym c.locate.ensures ∙ c.in-Work.is) in
    search rules

pub returns-in-Table : goal.returns-in-Table
returns-in-Table c g =
    let a = c.args in
    let d = c.dest_of.ensures.0 in
    let w = c.width_of-w.ensures in
    let v = c.turn.ensures ∙ turned-held a.board.order
    (bytes
    c.width_of-w.result) c.sixteen.ensures in
    rw (
      ← c.locate.ensures,
      c.in-Table.is,
    )
    (record {
      outcome = ap (λ x. x.outcome) c.finished.ensures;
      control = ap (λ x. x.control)
          c.finished.ensures;
      vec = cc;
      gen = refl;
      work = refl;
    })

pub returns-in-Work : goal.returns-in-Work
returns-in-Work c g =
    let a = c.args in
    let d = c.dest_of.ensures.0 in
    let w = c.width_of-w.ensures in
    let v = c.turn-in-Work.ensures ∙ turned-held a.board.order
    (bytes
    c.width_of-w.result) c.sixteen-in-Work.ensures in
    rw (
      ← c.locate.ensures,
      c.in-Work.is,
    )
    (record {
      outcome = ap (λ x. x.outcome) c.finished-in-Work.ensures;
      control = ap (λ x. x.control)
          c.finished-in-Work.ensures;
      vec = cc;
      gen = refl;
      work = refl;
    })

pub returns-in-Outside : goal.returns-in-Outside
returns-in-Outside c g =
    let a = c.args in
    rw (← c.locate.ensures, c.in-Outside.is)
    (stopped-is _ (machine a.vectors.now g a.work.now a.c) _ c.stopped.ensures)
