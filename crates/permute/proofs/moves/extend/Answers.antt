-- `permute::moves::extend` meets its contract. A number that is negative has ones above it.
use native.Mathlib.Omega.{arith}
use Rattle.element.proofs.Widths.{sized}
use Rattle.permute.proofs.Extensions.{extend-plus, extend-minus}
use Rattle.permute.proofs.moves.extend.Goals as goal

pub returns-then-x-top : goal.returns-then-x-top
returns-then-x-top c =
    let s = c in
    extend-plus s.args.m s.args.x (omega arith) (omega (arith, sized s.args.m s.requires.0 s.requires.1))

pub returns-else-x-top : goal.returns-else-x-top
returns-else-x-top c =
    let s = c in
    let size = sized s.args.m s.requires.0 s.requires.1 in
    extend-minus s.args.m s.args.x _ (omega arith) (omega arith) (omega arith)
