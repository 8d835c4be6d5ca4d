-- `budget::all_forward`. The invariant: the words before i all go forward.
use Rattle.std.proofs.Common.{◌≡◌, sym, ap, ◌∙◌, arith}
use Rattle.reading.specs.Reading.{read_of}
use Rattle.budget.specs.Budget.{forward, words}
use Rattle.budget.proofs.BudgetLaws.{forward-none, forward-more, forward-not}
use Rattle.budget.proofs.all_forward.Goals as goal

pub loop-i-init : goal.loop-i-init
loop-i-init c = forward-none _

pub returns-then-not-word_forward : goal.returns-then-not-word_forward
returns-then-not-word_forward c =
    let back = ap (λ w. forward (read_of w)) (sym c.four.ensures) ∙ sym c.word_forward.ensures
    ∙ c.if-not-word_forward.true in
    let inside = c.loop-i-test.true in
    sym (forward-not _ _ c.loop-i.i (omega arith) back)

pub loop-i-preserved : goal.loop-i-preserved
loop-i-preserved c =
    let l = c.loop-i in
    let ahead = ap (λ w. forward (read_of w)) (sym c.four.ensures) ∙ sym c.word_forward.ensures
    ∙ c.if-not-word_forward.false in
    forward-more _ l.i l.invariant ahead

pub returns : goal.returns
returns c =
    let l = c.loop-i in
    let all : l.i ≡ words c.args.program.now = omega (arith, l.auto.i-end, c.loop-i-test.false) in
    sym (rw all at l.invariant)
