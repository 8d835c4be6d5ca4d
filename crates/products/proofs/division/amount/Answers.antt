-- `products::division::amount` meets its contract. Each arm knows the reading.
use Rattle.element.specs.Value.{magnitude}
use Rattle.products.proofs.division.amount.Goals as goal

pub returns-in-Signed : goal.returns-in-Signed
unfolding magnitude
returns-in-Signed c = rw c.in-Signed.is c.magnitude.ensures
