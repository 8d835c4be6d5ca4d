-- `entries::filled::fill` meets its contract: after i turns i words are listed.
use Rattle.std.proofs.Common.{◌≡◌, ◌/◌, length, ap, ◌∙◌, arith}
use Rattle.entries.specs.Listed.{listed}
use Rattle.entries.proofs.ListedLaws.{none, more, no_words, more-words}
use Rattle.entries.proofs.filled.fill.Goals as goal

pub loop-i-init : goal.loop-i-init
loop-i-init c = (none _ _, no_words _)

pub loop-i-preserved : goal.loop-i-preserved
loop-i-preserved c =
    let l = c.loop-i in (
      more _ _ _ _ _ l.invariant.0 c.entry_at.ensures.0,
      more-words _ _ l.invariant.1 c.entry_at.ensures.1,
    )

pub returns : goal.returns
returns c =
    let a = c.args in
    let l = c.loop-i in
    let all : l.i ≡ length a.program.now / 4 = omega (arith, l.auto.i-end, c.loop-i-test.false) in
    record {
      list_after = l.invariant.0 ∙ ap (λ k. listed a.program.now a.list.now k) all;
      are_words = rw (← all) l.invariant.1;
    }
