-- `values::operands::third` meets its contract: each answer of the flag has its arm, and both hold their number.
use mathlib.Core.Path.{◌∙◌, ap}
use Rattle.memory.specs.Value.{value}
use Rattle.vectors.proofs.Sizes.{shares}
use Rattle.vectors.proofs.Wholes.{value-filled}
use Rattle.values.proofs.operands.third.Goals as goal

pub returns-then-flag_of : goal.returns-then-flag_of
returns-then-flag_of c = let w = c.width_of in
    rw (
      ← c.flag_of.ensures,
      c.if-flag_of.true,
      ← w.ensures,
      ← c.extended.ensures,
    )
    (record {
      is = c.spread.ensures;
      exact = ap value c.spread.ensures ∙ value-filled (shares w.result) c.extended.result;
    })

pub returns-else-flag_of : goal.returns-else-flag_of
returns-else-flag_of c = rw (← c.flag_of.ensures, c.if-flag_of.false) c.last.ensures
