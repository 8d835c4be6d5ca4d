-- `reading::index::range` meets its contract.
use Rattle.std.proofs.Common.{sym, ap, ◌∙◌, arith}
use Rattle.reading.proofs.Ranges.{in-range, below-range, past-range}
use Rattle.reading.specs.Index.{told}
use Rattle.reading.proofs.index.range.Goals as goal

pub returns-then-x-base : goal.returns-then-x-base
returns-then-x-base c r e = e ∙ ap told (sym (below-range _ _ _ _ r c.if-x-base.true))

pub returns-then-n-size : goal.returns-then-n-size
returns-then-n-size c r e = ap told (sym (in-range _ _ _ _ r (omega arith) (omega arith)))

pub returns : goal.returns
returns c r e = e ∙ ap told (sym (past-range _ _ _ _ r (omega arith)))
