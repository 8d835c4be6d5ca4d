-- `forms::imm5` meets its contract. The immediate is in every element.
use Rattle.vectors.proofs.Sizes.{shares}
use Rattle.vectors.proofs.Wholes.{value-filled}
use Rattle.forms.proofs.imm5.Goals as goal

pub returns : goal.returns
returns c =
    let made = c.immediate in
    let start = c in
    rw (c.spread-t.ensures, value-filled (shares start.args.w) made.result, made.ensures)
    at c.each.ensures
