-- `state::windows::first_outside`: of the addresses that are left the first outside is that of all sixteen.
use Rattle.std.proofs.Common.{◌≡◌, ◌+◌, ◌-◌, ◌%◌, ◌^◌, sym, ap, ◌∙◌, arith}
use Rattle.state.specs.Windows.{first_outside}
use Rattle.state.proofs.WindowLaws.{outside-on, outside-here, outside-none}
use Rattle.state.proofs.windows.first_outside.Goals as goal

pub loop-k-init : goal.loop-k-init
loop-k-init c = ap (first_outside 16 c.args.base c.args.len) (omega arith)

pub loop-k-preserved : goal.loop-k-preserved
loop-k-preserved c =
    let a = c.args in
    let k = c.loop-k.k in
    let lies = sym c.lies_in.ensures ∙ c.if-not-lies_in.false in
    let fewer : 16 - (k + 1) ≡ 16 - k - 1 = omega arith in
    rw fewer
    (outside-on a.base a.len ((a.a + k) % 2 ^ 64) (16 - k) ((a.a + (k + 1)) % 2 ^ 64)
    (omega (arith, c.loop-k-test.true)) (omega arith) lies
    ∙ c.loop-k.invariant)

pub returns-then-not-lies_in : goal.returns-then-not-lies_in
returns-then-not-lies_in c =
    let lies = sym c.lies_in.ensures ∙ c.if-not-lies_in.true in
    sym (outside-here c.args.base c.args.len _ (16 - c.loop-k.k) lies) ∙ c.loop-k.invariant

pub returns : goal.returns
returns c =
    let all : c.loop-k.k ≡ 16 = omega (arith, c.loop-k-test.false, c.loop-k.auto.k-end) in
    let none = outside-none c.args.base c.args.len _ (16 - c.loop-k.k) (omega (arith, all)) in
    ap (λ k. (c.args.a + k) % 2 ^ 64) (sym all) ∙ sym none ∙ c.loop-k.invariant
