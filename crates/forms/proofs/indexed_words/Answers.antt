-- `forms::indexed_words` meets its contract. Each arm is its row of the definition.
use Rattle.forms.proofs.indexed_words.Goals as goal

pub returns-in-Splat : goal.returns-in-Splat
returns-in-Splat c = rw c.in-Splat.is c.splat.ensures
