-- `listed::turns::turns`. The invariant is the plain engine's, of every
-- program that the list has read: it meets its contract.
use Rattle.std.proofs.Common.{◌≡◌, ℕ, ◌<◌, List, get_or, refl, ◌∙◌, arith, rules}
use Rattle.acts.specs.Act.{plan_at}
use Rattle.listed.proofs.StepLaws.{step-none, step_from, stays}
use Rattle.listed.specs.Turn.{Reads}
use Rattle.machine.proofs.RunLaws.{sofar-none, sofar-more, sofar-stopped, sofar-spent}
use Rattle.machine.proofs.StepLaws.{stopped-is}
use Rattle.machine.specs.Run.{Run, runs}
use Rattle.machine.specs.Step.{StepIs, concluded, step_of, stopped_with}
use Rattle.state.specs.Machine.{env, machine}
use Rattle.state.specs.declared.stops.Stop.TheVariants as stop
use Rattle.listed.proofs.turns.turns.Goals.{then-k-lt56+then-k-lt8, then-k-lt56+else-k-lt8, else-k-lt56}
use Rattle.listed.proofs.turns.turns.Goals as goal

pub loop-count-init : goal.loop-count-init
loop-count-init c =
    let a = c.args in (
      c.requires.1,
      λ p h. sofar-none p (env a.board a.table.now) a.budget
          (machine a.vectors.now a.generals.now a.work.now a.c),
    )

pub returns-then-words-at : goal.returns-then-words-at
returns-then-words-at c p h =
    let a = c.args in
    let l = c.loop-count in
    let e = env a.board a.table.now in
    let m = machine l.vectors l.generals l.work l.control in
    let whole = runs p e a.budget (machine a.vectors.now a.generals.now a.work.now a.c) in
    let none = step-none p e m (c.place-at.ensures.none p h.stands (rw (← h.all) c.if-words-at.true)) in
    let t = stopped_with stop.NoWord l.control in
    sofar-stopped p e a.budget l.count m whole (l.invariant.1 p h) c.loop-count-test.true stop.NoWord t
    l.vectors l.generals l.work (rw none (stopped-is stop.NoWord m t refl)) refl

pub common-requires : goal.common-requires
common-requires c = (omega (arith, c.code_of-k.ensures.0, c.if-k-lt8.true), c.loop-count.invariant.0)

pub quick-requires : goal.quick-requires
quick-requires c =
    let k = c.code_of-k.ensures.0 in
    (omega (arith, k, c.if-k-lt8.false), omega (arith, k, c.if-k-lt56.true), c.loop-count.invariant.0)

pub slow-s-requires : goal.slow-s-requires
slow-s-requires c = (omega (arith, c.code_of-k.ensures.0, c.if-k-lt56.false), c.loop-count.invariant.0)

pub loop-count-preserved : goal.loop-count-preserved
loop-count-preserved c =
    let j = c.if-k-lt56 in
    let a = c.args in
    let l = c.loop-count in
    let e = env a.board a.table.now in
    let m = machine l.vectors l.generals l.work l.control in
    let at = c.place-at in
    let whole : List ℕ → Run = λ p. runs p e a.budget (machine a.vectors.now a.generals.now a.work.now
    a.c) in
    let x = get_or a.list.now at.result 0 in
    let done : StepIs (concluded a.board.work (plan_at e m x) m) j.s j.vectors j.generals j.work =
    elim j.branch [
      | then-k-lt56+then-k-lt8 w ↦ rw (w.vectors-is, w.generals-is, w.work-is, w.s-is) w.common.ensures
      | then-k-lt56+else-k-lt8 w ↦
          rw (w.vectors-is, w.generals-is, w.work-is, w.s-is) (w.quick.ensures e l.generals l.work)
      | else-k-lt56 w ↦
          rw (w.vectors-is, w.generals-is, w.work-is, w.s-is) (w.slow-s.ensures a.table.now)
    ] in
    let step : (p : List ℕ) → Reads a.board.program a.words p a.list.now
    → StepIs (step_of p e m) j.s j.vectors j.generals j.work = λ p h.
    let low : at.result < a.words = omega (arith, c.if-words-at.false) in
    let from = step_from a.board.program a.words p a.list.now h at.result low e m
    (at.ensures.found p h.stands (rw (← h.all) low))
    in
    rw from done
    in (
      stays a.board.work (plan_at e m x) m done.control ∙ l.invariant.0,
      λ p h. sofar-more p e a.budget l.count m (whole p) (l.invariant.1 p h)
          c.loop-count-test.true _ _ _ _ (step p h)
          c.in_default.is,
    )

pub returns-in-Err : goal.returns-in-Err
returns-in-Err c p h =
    let j = c.if-k-lt56 in
    let a = c.args in
    let l = c.loop-count in
    let e = env a.board a.table.now in
    let m = machine l.vectors l.generals l.work l.control in
    let at = c.place-at in
    let whole : List ℕ → Run = λ p. runs p e a.budget (machine a.vectors.now a.generals.now a.work.now
    a.c) in
    let x = get_or a.list.now at.result 0 in
    let done : StepIs (concluded a.board.work (plan_at e m x) m) j.s j.vectors j.generals j.work =
    elim j.branch [
      | then-k-lt56+then-k-lt8 w ↦ rw (w.vectors-is, w.generals-is, w.work-is, w.s-is) w.common.ensures
      | then-k-lt56+else-k-lt8 w ↦
          rw (w.vectors-is, w.generals-is, w.work-is, w.s-is) (w.quick.ensures e l.generals l.work)
      | else-k-lt56 w ↦
          rw (w.vectors-is, w.generals-is, w.work-is, w.s-is) (w.slow-s.ensures a.table.now)
    ] in
    let step : (p : List ℕ) → Reads a.board.program a.words p a.list.now
    → StepIs (step_of p e m) j.s j.vectors j.generals j.work = λ p h.
    let low : at.result < a.words = omega (arith, c.if-words-at.false) in
    let from = step_from a.board.program a.words p a.list.now h at.result low e m
    (at.ensures.found p h.stands (rw (← h.all) low))
    in
    rw from done
    in
    sofar-stopped p e a.budget l.count m (whole p) (l.invariant.1 p h)
    c.loop-count-test.true _ _ _ _ _ (step p h)
    c.in-Err.is

pub returns : goal.returns
returns c p h =
    let a = c.args in
    let l = c.loop-count in
    let e = env a.board a.table.now in
    let m = machine l.vectors l.generals l.work l.control in
    let whole = runs p e a.budget (machine a.vectors.now a.generals.now a.work.now a.c) in
    let all : l.count ≡ a.budget = omega (arith, l.auto.count-end, c.loop-count-test.false) in
    let spent = sofar-spent p e a.budget l.count m whole (l.invariant.1 p h) c.loop-count-test.false in
    rw all at spent
