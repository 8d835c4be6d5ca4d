-- `state::setup::check`: the first limit is tested, and the rest is `later`'s.
use Rattle.state.proofs.SetupLaws.{here, next, whole}
use Rattle.state.proofs.TestLaws.{generals-sized}
use Rattle.state.specs.Setup.{setup_number, refusal}
use Rattle.std.proofs.Common.{length, sym, ap, ◌∙◌}
use Rattle.std.proofs.lemmas.Result.{err_from_is_err_and}
use Rattle.state.proofs.setup.check.Goals as goal

pub later-requires : goal.later-requires
later-requires c =
    generals-sized (length c.args.vectors.now) _ (sym c.registers_bad-registers.ensures ∙ whole _ _ c.in_ok-unless.ensures)

pub returns-in_err-unless : goal.returns-in_err-unless
unfolding refusal
returns-in_err-unless c =
    let p = err_from_is_err_and c.from_residual.result c.from_residual.ensures.1 in
    rw (p.1, p.2, ← c.registers_bad-registers.ensures)
    (record { number = ap setup_number (here _ _ _ _ c.in_err-unless.ensures) })

pub returns : goal.returns
unfolding refusal
returns c =
    record {
      number = ap setup_number
          (rw (← c.registers_bad-registers.ensures) (next _ _ _ _ c.in_ok-unless.ensures c.later.ensures));
    }
