-- `products::product::msubv` meets its contract. The ring view.
use Rattle.std.proofs.Common.{sym}
use Rattle.products.proofs.Ring.{msubv-form}
use Rattle.products.proofs.product.msubv.Goals as goal

pub returns : goal.returns
returns c = rw (c.subv.ensures, c.mulv.ensures) (sym (msubv-form _ _ _ _))
