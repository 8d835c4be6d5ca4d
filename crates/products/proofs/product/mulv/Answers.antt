-- `products::product::mulv` meets its contract. The low bits of the low 64 bits.
use Rattle.std.proofs.Common.{◌*◌, ◌∙◌}
use Rattle.element.proofs.Widths.{low-low}
use Rattle.products.specs.Products.{mulv}
use Rattle.products.proofs.product.mulv.Goals as goal

pub returns : goal.returns
unfolding mulv
returns c = let a = c.args in
    c.low.ensures ∙ (low-low a.w (a.s * a.t))
