-- `forms::bit` meets its contract. The immediate is in every element.
use Rattle.vectors.proofs.Sizes.{shares}
use Rattle.vectors.proofs.Wholes.{value-filled}
use Rattle.forms.proofs.bit.Goals as goal

pub returns : goal.returns
returns c =
    rw (← value-filled (shares c.args.w) c.args.m, ← c.spread.ensures) c.each.ensures
