-- `reading::index::element_index` meets its contract.
use Rattle.std.proofs.Common.{refl}
use Rattle.reading.specs.Index.{reserved}
use Rattle.reading.proofs.index.element_index.Goals as goal

pub returns : goal.returns
returns c = c.range.ensures _ (c.range-h.ensures _ (c.range-w.ensures _ (c.range-d.ensures reserved refl)))
