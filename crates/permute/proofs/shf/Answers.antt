-- `permute::shf` meets its contract. Four bytes, and four halfwords, are in one word; four words are the register.
use borrow.Author.Rules.{rules}
use mathlib.Core.Path.{refl}
use Rattle.isa.specs.declared.Width.TheVariants.{B, H}
use Rattle.memory.specs.Value.{value}
use Rattle.memory.proofs.Values.{Words, is-register}
use Rattle.vectors.proofs.Sizes.{shares}
use Rattle.permute.proofs.ShuffleLaws.{shf-words, shf-four, shf-two}
use Rattle.permute.proofs.shf.Goals as goal

pub returns-in-B : goal.returns-in-B
returns-in-B c =
    let a = c.args in
    let words : Words a.s = (record { low = search rules; high = search rules }) in
    rw c.in-B.is
    (is-register (record { low = search rules; high = search rules })
    (shf-words (shares B) words a.imm 2 refl c.shuffled.ensures c.shuffled-in-B.ensures))

pub returns-in-H : goal.returns-in-H
returns-in-H c =
    let a = c.args in
    let words : Words a.s = (record { low = search rules; high = search rules }) in
    rw c.in-H.is
    (is-register (record { low = search rules; high = search rules })
    (shf-words (shares H) words a.imm 1 refl c.shuffled-in-H.ensures c.shuffled-in-H-2.ensures))

pub returns-in-W : goal.returns-in-W
returns-in-W c =
    let a = c.args in
    rw c.in-W.is
    (is-register (record { low = search rules; high = search rules })
    (shf-four (value a.s) a.imm c.pair.ensures c.pair-in-W.ensures))

pub returns-in-D : goal.returns-in-D
returns-in-D c =
    let a = c.args in
    rw c.in-D.is
    (is-register (record { low = search rules; high = search rules })
    (shf-two (value a.s) a.imm c.element_at.ensures.is c.element_at-in-D.ensures.is))
