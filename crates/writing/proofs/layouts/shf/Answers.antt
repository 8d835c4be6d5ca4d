-- `writing::layouts::shf` meets its contract.
use Rattle.writing.proofs.layouts.shf.Goals as goal

pub returns : goal.returns
returns c = rw (c.width_code.ensures.0, c.has_form.ensures) at c.eight.ensures
