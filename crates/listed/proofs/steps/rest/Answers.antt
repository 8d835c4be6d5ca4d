-- `listed::steps::rest` meets its contract.
use Rattle.std.proofs.Common.{[], sym, ap, ◌∙◌, rules}
use Rattle.listed.proofs.KeptLaws.{plan-not, plan-move}
use Rattle.listed.proofs.ThereLaws.{move-there}
use Rattle.listed.specs.Turn.{kept_stop}
use Rattle.machine.proofs.StepLaws.{stopped-is}
use Rattle.machine.specs.Step.{stopped_with}
use Rattle.state.specs.Machine.{env, machine}
use Rattle.listed.proofs.steps.rest.Goals as goal

pub returns-in_default : goal.returns-in_default
returns-in_default c t =
    let a = c.args in
    let m = machine a.vectors.now a.generals.now a.work.now a.c in
    let told = c.in_default.is in
    rw (plan-not (env a.board t) m a.e (sym c.kept_as-k.ensures ∙ told))
    (stopped-is _ m _ (c.stopped.ensures ∙ ap (λ s. stopped_with s a.c)
    (c.kept_stop.ensures ∙ ap kept_stop told)))

pub conclude-requires : goal.conclude-requires
conclude-requires c =
    let a = c.args in
    let m = machine a.vectors.now a.generals.now a.work.now a.c in
    rw (c.moved-p.ensures a.work.now)
    (move-there (env a.board []) m a.e)

pub returns : goal.returns
returns c t =
    let a = c.args in
    let m = machine a.vectors.now a.generals.now a.work.now a.c in
    let is = sym
    c.kept_as-k.ensures ∙
    c.in-Ok.is in
    rw (
      plan-move (env a.board t) m a.e is c.requires.0 c.requires.1,
      ← c.moved-p.ensures
          a.work.now,
    )
    c.conclude.ensures
