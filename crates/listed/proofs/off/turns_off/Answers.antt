-- `listed::off::turns_off`. The invariant is that of `turns`: it meets its contract.
use Rattle.std.proofs.Common.{◌≡◌, ℕ, ◌<◌, List, [], get_or, refl, ◌∙◌, arith, rules}
use Rattle.acts.specs.Act.{plan_at}
use Rattle.listed.proofs.StepLaws.{step-none, step_from, step_is, stays}
use Rattle.listed.specs.Turn.{Reads}
use Rattle.machine.proofs.RunLaws.{sofar-none, sofar-more, sofar-stopped, sofar-spent}
use Rattle.machine.proofs.StepLaws.{stopped-is}
use Rattle.machine.specs.Run.{runs}
use Rattle.machine.specs.Step.{concluded, step_of, stopped_with}
use Rattle.state.specs.Machine.{env, machine}
use Rattle.state.specs.declared.stops.Stop.TheVariants as stop
use Rattle.listed.proofs.off.turns_off.Goals as goal

pub loop-count-init : goal.loop-count-init
loop-count-init c =
    let a = c.args in (
      c.requires.1,
      λ p t v w h. sofar-none p (env a.board t) a.budget (machine v a.generals.now w a.c),
    )

pub returns-then-words-at : goal.returns-then-words-at
returns-then-words-at c p t v w h =
    let a = c.args in
    let l = c.loop-count in
    let e = env a.board t in
    let m = machine v l.generals w l.control in
    let whole = runs p e a.budget (machine v a.generals.now w a.c) in
    let none = step-none p e m (c.place-at.ensures.none p h.stands (rw (← h.all) c.if-words-at.true)) in
    let s = stopped_with stop.NoWord l.control in
    sofar-stopped p e a.budget l.count m whole (l.invariant.1 p t v w h) c.loop-count-test.true
    stop.NoWord s
    v l.generals w (rw none (stopped-is stop.NoWord m s refl)) refl

pub off-s-requires : goal.off-s-requires
off-s-requires c = c.loop-count.invariant.0

pub loop-count-preserved : goal.loop-count-preserved
loop-count-preserved c =
    let a = c.args in
    let l = c.loop-count in
    let at = c.place-at in
    let x = get_or a.list.now at.result 0 in
    let low : at.result < a.words = omega
    (arith, c.if-words-at.false) in
    let from : (p t v w : List ℕ) → Reads a.board.program a.words p a.list.now
    → step_of p (env a.board t) (machine v l.generals w l.control)
    ≡ concluded a.board.work (plan_at (env a.board t) (machine v l.generals w l.control) x)
    (machine v l.generals w l.control) = λ p t v w h.
    step_from a.board.program a.words p a.list.now h at.result low (env a.board t)
    (machine v l.generals w l.control) (at.ensures.found p h.stands (rw (← h.all) low))
    in
    let o = c.off-s.ensures (env a.board []) [] [] in (
      stays a.board.work (plan_at (env a.board []) (machine [] l.generals [] l.control) x)
          (machine [] l.generals [] l.control) o.control ∙ l.invariant.0,
      λ p t v w h. sofar-more p (env a.board t) a.budget l.count (machine v l.generals w l.control)
          (runs p (env a.board t) a.budget (machine v a.generals.now w a.c)) (l.invariant.1 p t v w h)
          c.loop-count-test.true _ _ _
          _ (step_is (from p t v w h) (c.off-s.ensures (env a.board t) v w))
          c.in_default.is,
    )

pub returns-in-Err : goal.returns-in-Err
returns-in-Err c p t v w h =
    let a = c.args in
    let l = c.loop-count in
    let at = c.place-at in
    let x = get_or a.list.now at.result 0 in
    let low : at.result < a.words = omega
    (arith, c.if-words-at.false) in
    let from : (p t v w : List ℕ) → Reads a.board.program a.words p a.list.now
    → step_of p (env a.board t) (machine v l.generals w l.control)
    ≡ concluded a.board.work (plan_at (env a.board t) (machine v l.generals w l.control) x)
    (machine v l.generals w l.control) = λ p t v w h.
    step_from a.board.program a.words p a.list.now h at.result low (env a.board t)
    (machine v l.generals w l.control) (at.ensures.found p h.stands (rw (← h.all) low))
    in
    sofar-stopped p (env a.board t) a.budget l.count (machine v l.generals w l.control)
    (runs p (env a.board t) a.budget (machine v a.generals.now w a.c)) (l.invariant.1 p t v w h)
    c.loop-count-test.true _ _ _ _ _
    (step_is (from p t v w h) (c.off-s.ensures (env a.board t) v w))
    c.in-Err.is

pub returns : goal.returns
returns c p t v w h =
    let a = c.args in
    let l = c.loop-count in
    let all : l.count ≡ a.budget = omega (arith, l.auto.count-end, c.loop-count-test.false) in
    let spent = sofar-spent p (env a.board t) a.budget l.count (machine v l.generals w l.control)
    (runs p (env a.board t) a.budget (machine v a.generals.now w a.c)) (l.invariant.1 p t v w h)
    c.loop-count-test.false in
    rw all at spent
