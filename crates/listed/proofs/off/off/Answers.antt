-- `listed::off::off` meets its contract.
use Rattle.std.proofs.Common.{sym, ap, ◌∙◌}
use Rattle.isa.specs.declared.Scaled.TheVariants.{Lsa, Dlsa}
use Rattle.listed.proofs.KeptLaws.{plan-not, plan-off, sum-off, third-code}
use Rattle.listed.specs.Turn.{kept_stop}
use Rattle.machine.proofs.StepLaws.{stopped-is}
use Rattle.machine.specs.Step.{stopped_with}
use Rattle.state.specs.Machine.{machine}
use Rattle.listed.proofs.off.off.Goals as goal

pub returns-in_default : goal.returns-in_default
returns-in_default c n v w =
    let a = c.args in
    let m = machine v a.generals.now w a.c in
    let told = c.in_default.is in
    rw (plan-not n m a.e (sym c.kept_as-kept.ensures ∙ told))
    (stopped-is _ m _ (c.stopped.ensures ∙ ap (λ s. stopped_with s a.c)
    (c.kept_stop.ensures ∙ ap kept_stop told)))

pub returns-in-Err : goal.returns-in-Err
returns-in-Err c n v w =
    let a = c.args in
    let m = machine v a.generals.now w a.c in
    let is = sym c.kept_as-kept.ensures ∙
    c.in-Ok.is in
    rw (
      plan-off n m a.e is c.requires,
      ← c.early_at.ensures,
      c.in-Err.is,
    )
    (stopped-is _ m _ c.stopped-in-Err.ensures)

pub returns-then-k-eq2 : goal.returns-then-k-eq2
returns-then-k-eq2 c n v w =
    let a = c.args in
    let m = machine v a.generals.now w a.c in
    let is = sym
    c.kept_as-kept.ensures ∙
    c.in-Ok.is in
    rw (sum-off n m a.e is c.requires Lsa c.if-k-eq2.true)
    (c.summed.ensures n.board.work v w)

pub returns-else-k-eq2 : goal.returns-else-k-eq2
returns-else-k-eq2 c n v w =
    let a = c.args in
    let m = machine v a.generals.now w a.c in
    let is = sym
    c.kept_as-kept.ensures ∙
    c.in-Ok.is in
    let go = sym c.early_at.ensures ∙
    c.in_default-early_at.is in
    rw (sum-off n m a.e is c.requires Dlsa (third-code _ a.c.mark go
    c.if-k-eq2.false))
    (c.summed-else-k-eq2.ensures n.board.work v w)
