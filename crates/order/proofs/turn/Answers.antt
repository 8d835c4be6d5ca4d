-- `order::turn`: word by word.
use borrow.Author.Rules.{rules}
use Rattle.order.proofs.TurnLaws.{little-register, big-register}
use Rattle.order.proofs.turn.Goals as goal

pub returns-in-Little : goal.returns-in-Little
returns-in-Little c =
    let a = c.args in
    rw c.in-Little.is (little-register a.w a.v (record { low = search rules; high = search rules }))

pub returns-in-Big : goal.returns-in-Big
returns-in-Big c =
    let a = c.args in
    rw c.in-Big.is
    (big-register a.w a.v (record { low = search rules; high = search rules }) _
    (record { low = search rules; high = search rules }) c.turned_word.ensures c.turned_word-in-Big.ensures)
