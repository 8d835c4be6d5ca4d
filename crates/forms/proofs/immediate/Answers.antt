-- `forms::immediate` meets its contract, with the sign and without it.
use Rattle.forms.proofs.immediate.Goals as goal

pub returns-then-signed : goal.returns-then-signed
returns-then-signed c = rw c.if-signed.true c.extend.ensures

pub returns : goal.returns
returns c = rw c.if-signed.false
