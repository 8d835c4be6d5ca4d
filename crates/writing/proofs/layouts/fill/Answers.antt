-- `writing::layouts::fill` meets its contract.
use Rattle.writing.proofs.layouts.fill.Goals as goal

pub returns : goal.returns
returns c = rw c.has_form.ensures at c.two.ensures
