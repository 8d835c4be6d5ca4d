-- `parallel_counts::pcnt` meets its contract. Each arm hands on what its function ensures.
use borrow.Author.Rules.{rules}
use lib.Count.{ones}
use Rattle.parallel_counts.proofs.Apart.{one_lane}
use Rattle.parallel_counts.proofs.pcnt.Goals as goal

pub returns-in-D : goal.returns-in-D
returns-in-D c =
    let a = c in
    let e = c.in-D.is in
    rw e (one_lane ones a.args.s a.ranges.s.fits (search rules) c.pcnt.ensures)
