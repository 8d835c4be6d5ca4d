-- `writing::layouts::insert` meets its contract.
use Rattle.writing.proofs.layouts.insert.Goals as goal

pub returns : goal.returns
returns c = rw (
  c.element_code.ensures,
  c.element_count.ensures,
  c.has_form.ensures,
) at c.elm.ensures
