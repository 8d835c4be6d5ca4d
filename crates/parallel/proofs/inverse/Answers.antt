-- `parallel::inverse` meets its contract. The difference from all ones has no borrow.
use Rattle.std.proofs.Common.{rules, arith}
use Rattle.vectors.proofs.Sizes.{shares}
use Rattle.parallel.proofs.Words.{own, fits, ones-lanes, minus-lanes}
use Rattle.parallel.proofs.inverse.Goals as goal

pub returns : goal.returns
returns c =
    let share = shares c.args.w in
    let x = own share c.args.x (search rules) in
    minus-lanes share (ones-lanes share) x (λ i l. omega (arith, fits share x i l))
