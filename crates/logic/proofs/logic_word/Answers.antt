-- `logic::logic_word` meets its contract. A word is the number with its bits.
use borrow.Author.Rules.{rules}
use Rattle.isa.specs.declared.Logic.TheVariants.{And, Or, Nor, Xor, Bmnz, Bmz, Bsel}
use Rattle.logic.proofs.BitLaws.{word-bits}
use Rattle.logic.proofs.logic_word.Goals as goal

pub returns-in-And : goal.returns-in-And
returns-in-And c =
    let a = c.args in
    rw c.in-And.is (word-bits a.d a.s a.t (search rules) (search rules) (search rules) And)

pub returns-in-Or : goal.returns-in-Or
returns-in-Or c =
    let a = c.args in
    rw c.in-Or.is (word-bits a.d a.s a.t (search rules) (search rules) (search rules) Or)

pub returns-in-Nor : goal.returns-in-Nor
returns-in-Nor c =
    let a = c.args in
    rw c.in-Nor.is (word-bits a.d a.s a.t (search rules) (search rules) (search rules) Nor)

pub returns-in-Xor : goal.returns-in-Xor
returns-in-Xor c =
    let a = c.args in
    rw c.in-Xor.is (word-bits a.d a.s a.t (search rules) (search rules) (search rules) Xor)

pub returns-in-Bmnz : goal.returns-in-Bmnz
returns-in-Bmnz c =
    let a = c.args in
    rw c.in-Bmnz.is (word-bits a.d a.s a.t (search rules) (search rules) (search rules) Bmnz)

pub returns-in-Bmz : goal.returns-in-Bmz
returns-in-Bmz c =
    let a = c.args in
    rw c.in-Bmz.is (word-bits a.d a.s a.t (search rules) (search rules) (search rules) Bmz)

pub returns-in-Bsel : goal.returns-in-Bsel
returns-in-Bsel c =
    let a = c.args in
    rw c.in-Bsel.is (word-bits a.d a.s a.t (search rules) (search rules) (search rules) Bsel)
