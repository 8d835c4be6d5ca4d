-- `permute::insert` meets its contract. The element is in one of the words, or past both.
use borrow.Author.Rules.{rules}
use native.Mathlib.Omega.{arith}
use Rattle.isa.specs.Widths.{bits}
use Rattle.memory.specs.Value.{value}
use Rattle.memory.proofs.Values.{Words, is-register}
use Rattle.vectors.proofs.Sizes.{shares}
use Rattle.vectors.proofs.Wholes.{whole_words}
use Rattle.parallel.proofs.Words.{own, built, same-lanes}
use Rattle.permute.specs.Permute.{with_element}
use Rattle.permute.proofs.InsertLaws.{in-low, in-high, low-kept, high-kept, all-kept}
use Rattle.permute.proofs.insert.Goals as goal

pub returns-then-i-m : goal.returns-then-i-m
returns-then-i-m c =
    let a = c.args in
    let share = shares a.w in
    let words : Words a.d = (record { low = search rules; high = search rules }) in
    let f = with_element a.i a.x (bits a.w) (value a.d) in
    is-register (record { low = search rules; high = search rules })
    (whole_words share f _ _
    (built share (same-lanes share c.put.ensures (in-low share words a.i a.x)))
    (built share (same-lanes share (own share a.d.high words.high)
    (high-kept share words a.i a.x (omega (arith, c.per_word-m.ensures))))))

pub returns-then-i-m-2 : goal.returns-then-i-m-2
returns-then-i-m-2 c =
    let a = c.args in
    let n = bits a.w in
    let share = shares a.w in
    let words : Words a.d = (record { low = search rules; high = search rules }) in
    let f = with_element a.i a.x n (value a.d) in
    let per = c.per_word-m.ensures in
    let new = rw per at c.put-then-i-m-2.ensures in
    is-register (record { low = search rules; high = search rules })
    (whole_words share f _ _
    (built share (same-lanes share (own share a.d.low words.low)
    (low-kept share words a.i a.x (omega (arith, per)))))
    (built share (same-lanes share new (in-high share words a.i a.x (omega (arith, per))))))

pub returns : goal.returns
returns c =
    let a = c.args in
    let words : Words a.d = (record { low = search rules; high = search rules }) in
    is-register words
    (all-kept (shares a.w) words a.i a.x
    (omega (arith, c.per_word-m.ensures, (shares a.w).double)))
