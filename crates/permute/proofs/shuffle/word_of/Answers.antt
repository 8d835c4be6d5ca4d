-- `permute::shuffle::word_of` meets its contract. Each arm knows the place.
use borrow.Author.Rules.{rules}
use native.Mathlib.Omega.{arith}
use mathlib.Core.Path.{◌∙◌}
use Rattle.memory.specs.Value.{value}
use Rattle.permute.proofs.SideLaws.{place-first, place-second, low_word, high_word}
use Rattle.permute.proofs.shuffle.word_of.Goals as goal

pub returns-then-q-eq0 : goal.returns-then-q-eq0
returns-then-q-eq0 c =
    let a = c.args in
    low_word {v = a.t} (record { low = search rules; high = search rules })
    ∙ place-first 64 (value a.s) (value a.t) 0 (omega arith) (omega arith)

pub returns-else-q-eq0 : goal.returns-else-q-eq0
returns-else-q-eq0 c =
    let a = c.args in
    high_word {v = a.t} (record { low = search rules; high = search rules })
    ∙ place-first 64 (value a.s) (value a.t) 1 (omega arith) (omega arith)

pub returns-then-q-eq2 : goal.returns-then-q-eq2
returns-then-q-eq2 c =
    let a = c.args in
    low_word {v = a.s} (record { low = search rules; high = search rules })
    ∙ place-second 64 (value a.s) (value a.t) 0 (omega arith)

pub returns-else-q-eq2 : goal.returns-else-q-eq2
returns-else-q-eq2 c =
    let a = c.args in
    high_word {v = a.s} (record { low = search rules; high = search rules })
    ∙ place-second 64 (value a.s) (value a.t) 1 (omega (arith, c.requires))
