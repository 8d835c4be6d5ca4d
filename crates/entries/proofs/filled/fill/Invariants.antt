-- `entries::filled::fill` meets its contract: after i turns i words are listed.
use Rattle.std.proofs.Common.{◌≡◌}
use Rattle.entries.specs.Listed.{listed, AreWords}
use Rattle.entries.proofs.filled.fill.Given as goal

abbrev pub invariant-loop-i : goal.invariant-loop-i
invariant-loop-i l = (l.list ≡ listed l.program l.initial.list l.i) × AreWords l.program l.i
