-- `parallel_pack::evens` meets its contract. The low half of elements of twice the width.
use borrow.Author.Rules.{rules}
use mathlib.Core.Path.{◌∙◌}
use Prim.Native.Nat.{◌+◌}
use lib.Bits.{and_mask}
use Rattle.isa.specs.Widths.{bits}
use Rattle.vectors.specs.Register.{element}
use Rattle.parallel.proofs.Words.{own, same-lanes, and-lanes}
use Rattle.parallel_pack.proofs.Places.{doubles, even-part}
use Rattle.parallel_pack.proofs.evens.Goals as goal

pub returns : goal.returns
returns c =
    let a = c.args in
    let n = bits a.w in
    let d = doubles a.w c.requires in
    same-lanes d.two (and-lanes d.two (own d.two a.x (search rules)) c.lower.ensures)
    (λ j l. and_mask (element (n + n) a.x j) n ∙ even-part d a.x (search rules) j l)
