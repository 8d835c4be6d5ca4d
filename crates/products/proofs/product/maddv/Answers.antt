-- `products::product::maddv` meets its contract. The ring view.
use Rattle.std.proofs.Common.{sym}
use Rattle.products.proofs.Ring.{maddv-form}
use Rattle.products.proofs.product.maddv.Goals as goal

pub returns : goal.returns
returns c = rw (c.addv.ensures, c.mulv.ensures) (sym (maddv-form _ _ _ _))
