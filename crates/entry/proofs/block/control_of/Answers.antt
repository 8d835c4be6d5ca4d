-- `entry::block::control_of` meets its contract, test by test.
use mathlib.Core.Logic.{⊎_elim}
use mathlib.Core.Path.{◌≡◌, sym, ◌∙◌}
use borrow.Author.Tests.{ne_eqb}
use native.Mathlib.Omega.{arith}
use Rattle.entry.specs.Block.{decoded}
use Rattle.entry.proofs.BlockLaws.{known, switch-unknown, order-unknown}
use Rattle.entry.proofs.block.control_of.Goals as goal

pub returns-then-b-ne24 : goal.returns-then-b-ne24
unfolding decoded
returns-then-b-ne24 c = rw (ne_eqb _ _ c.if-b-ne24.true) c.broken_block.ensures

pub returns-then-switch-gt1 : goal.returns-then-switch-gt1
returns-then-switch-gt1 c =
    let b = c.args.b.now in
    let long = c.if-b-ne24.false in
    ⊎_elim (λ w. c.broken_block-then-switch-gt1.ensures ∙ sym (switch-unknown b long w))
    (λ w. c.broken_block-then-switch-gt1.ensures ∙ sym (order-unknown b long w.0 w.1))
    c.then-switch-gt1.either

pub returns-in-0 : goal.returns-in-0
returns-in-0 c =
    let b = c.args.b.now in
    let read = known b c.if-b-ne24.false (omega arith) (omega arith) in
    let mark : c.two.result ≡ 0 = c.in-0.is in
    rw (read, ← c.two.ensures, mark, c.eight-pc.ensures, c.four-csr.ensures)

pub returns-in-1 : goal.returns-in-1
returns-in-1 c =
    let b = c.args.b.now in
    let read = known b c.if-b-ne24.false (omega arith) (omega arith) in
    let mark : c.two.result ≡ 1 = c.in-1.is in
    rw (read, ← c.two.ensures, mark, c.eight-pc.ensures, c.four-csr.ensures)

pub returns-in-2 : goal.returns-in-2
returns-in-2 c =
    let b = c.args.b.now in
    let read = known b c.if-b-ne24.false (omega arith) (omega arith) in
    let mark : c.two.result ≡ 2 = c.in-2.is in
    rw (read, ← c.two.ensures, mark, c.eight-pc.ensures, c.four-csr.ensures, c.eight.ensures)

pub returns-in_default : goal.returns-in_default
returns-in_default c =
    let b = c.args.b.now in
    let read = known b c.if-b-ne24.false (omega arith) (omega arith) in
    let k = c.two.result in
    rw (read, ← c.two.ensures, ne_eqb k 0 (omega arith), ne_eqb k 1 (omega arith), ne_eqb k 2 (omega arith))
    c.broken_block-in_default.ensures
