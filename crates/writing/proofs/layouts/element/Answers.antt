-- `writing::layouts::element` meets its contract.
use Rattle.writing.proofs.layouts.element.Goals as goal

pub returns : goal.returns
returns c = rw (
  c.element_code.ensures,
  c.element_count.ensures,
  c.formed.ensures,
) at c.elm.ensures
