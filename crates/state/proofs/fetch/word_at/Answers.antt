-- `state::fetch::word_at`, by the laws of `fetched`.
use Rattle.state.proofs.FetchLaws.{fetched-below, fetched-odd, fetched-past, fetched-word}
use Rattle.std.specs.Prelude.{Some, Option}
use Rattle.state.specs.Fetch.{fetched, fetched_said, Fetches}
use Rattle.std.proofs.Common.{◌≡◌, ℕ, List, sym, ap, ◌∙◌, arith}
use Rattle.state.proofs.fetch.word_at.Goals as goal

fetches : {p : List ℕ} {base pc : ℕ} {r : Option ℕ} → r ≡ fetched p base pc → Fetches p base pc r
fetches e = record { said = ap fetched_said e }

pub returns-in_err-d : goal.returns-in_err-d
returns-in_err-d c =
    rw c.from_residual.ensures
    (fetches (sym (fetched-below _ c.args.base c.args.pc (omega (arith, c.in_err-d.ensures)))))

pub returns-then-d-ne0 : goal.returns-then-d-ne0
returns-then-d-ne0 c =
    fetches (sym (fetched-odd _ c.args.base c.args.pc (rw (← c.in_ok-d.ensures.1) c.if-d-ne0.true)))

pub returns-then-program-lt4 : goal.returns-then-program-lt4
returns-then-program-lt4 c = fetches (sym (fetched-past c.args.program.now c.args.base c.args.pc (omega arith)))

pub returns-then-d-program : goal.returns-then-d-program
returns-then-d-program c =
    let a = c.args in
    fetches
    (ap Some c.four.ensures
    ∙ rw (c.in_ok-d.ensures.1)
    (sym (fetched-word a.program.now a.base a.pc c.in_ok-d.ensures.0 (rw (← c.in_ok-d.ensures.1) c.if-d-ne0.false)
    (omega (arith, c.in_ok-d.ensures)))))

pub returns-else-d-program : goal.returns-else-d-program
returns-else-d-program c =
    let a = c.args in
    fetches (sym (fetched-past a.program.now a.base a.pc (omega (arith, c.in_ok-d.ensures))))
