-- `each::each_arith` meets its contract. A register is its two words, and each arm has both.
use borrow.Author.Rules.{rules}
use Rattle.each.proofs.Words.{both_words}
use Rattle.each.proofs.each_arith.Goals as goal

pub returns-in-Basic : goal.returns-in-Basic
returns-in-Basic c = let a = c.args in
    rw c.in-Basic.is
    (both_words _ a.w a.d a.s a.t _ (search rules) (search rules) (search rules) (search rules) (search rules))

pub returns-in-Absolute : goal.returns-in-Absolute
returns-in-Absolute c = let a = c.args in
    rw c.in-Absolute.is
    (both_words _ a.w a.d a.s a.t _ (search rules) (search rules) (search rules) (search rules) (search rules))

pub returns-in-Compare : goal.returns-in-Compare
returns-in-Compare c = let a = c.args in
    rw c.in-Compare.is
    (both_words _ a.w a.d a.s a.t _ (search rules) (search rules) (search rules) (search rules) (search rules))

pub returns-in-Addition : goal.returns-in-Addition
returns-in-Addition c = let a = c.args in
    rw c.in-Addition.is
    (both_words _ a.w a.d a.s a.t _ (search rules) (search rules) (search rules) (search rules) (search rules))

pub returns-in-Subtraction : goal.returns-in-Subtraction
returns-in-Subtraction c = let a = c.args in
    rw c.in-Subtraction.is
    (both_words _ a.w a.d a.s a.t _ (search rules) (search rules) (search rules) (search rules) (search rules))

pub returns-in-Product : goal.returns-in-Product
returns-in-Product c = let a = c.args in
    rw c.in-Product.is
    (both_words _ a.w a.d a.s a.t _ (search rules) (search rules) (search rules) (search rules) (search rules))

pub returns-in-Dot : goal.returns-in-Dot
returns-in-Dot c = let a = c.args in
    rw c.in-Dot.is
    (both_words _ a.w a.d a.s a.t _ (search rules) (search rules) (search rules) (search rules) (search rules))

pub returns-in-Across : goal.returns-in-Across
returns-in-Across c = let a = c.args in
    rw c.in-Across.is
    (both_words _ a.w a.d a.s a.t _ (search rules) (search rules) (search rules) (search rules) (search rules))
