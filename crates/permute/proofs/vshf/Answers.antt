-- `permute::vshf` meets its contract. The controls of a word are the register's.
use borrow.Author.Rules.{rules}
use Rattle.memory.specs.Value.{value}
use Rattle.permute.proofs.ControlLaws.{both-chosen}
use Rattle.permute.proofs.vshf.Goals as goal

pub returns : goal.returns
returns c =
    let a = c.args in
    both-chosen a.w a.d _ (value a.s) (value a.t) (search rules) (search rules)
    c.chosen.ensures c.chosen-2.ensures
